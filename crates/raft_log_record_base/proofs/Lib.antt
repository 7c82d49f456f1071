pub mod Public
pub mod Fixed
pub mod Grammar
mod Answered
pub mod Sizes
pub mod Var
pub mod VarLoop
pub mod VarSpelling
pub mod Faults
