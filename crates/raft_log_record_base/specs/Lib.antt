pub mod Grammar
pub mod Number
pub mod Size
pub mod Text
pub mod Files
pub mod Fault
