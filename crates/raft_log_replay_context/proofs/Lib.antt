pub mod Public
pub mod Parts
pub mod Fragments
pub mod OpenGroups
mod Slots
pub mod Outcomes
pub mod CarryOn
pub mod Taking
mod GroupsCount
pub mod Contexts
mod Refusals
mod Batches
mod Alike
mod Begins
mod Counting
mod Notes
mod NotedTo
pub mod Opening
mod Settling
pub mod Told
