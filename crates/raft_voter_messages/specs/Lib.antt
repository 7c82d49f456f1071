pub mod Ranges
pub mod StoredForms
pub mod StateHeads
pub mod ReplyText
pub mod Laws
