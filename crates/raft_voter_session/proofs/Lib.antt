pub mod Digits
pub mod LineLists
pub mod Texts
pub mod WordLists
pub mod WrittenSessions
pub mod WrittenWords
