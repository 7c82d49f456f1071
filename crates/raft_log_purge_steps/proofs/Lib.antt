pub mod Continuing
pub mod Deleting
pub mod Parting
pub mod Spending
pub mod Stepping
