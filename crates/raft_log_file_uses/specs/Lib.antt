pub mod Answers
pub mod GoodEnd
