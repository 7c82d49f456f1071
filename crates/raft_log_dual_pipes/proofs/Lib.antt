pub mod Public
pub mod AppendStep
pub mod Aside
pub mod BesideSteps
pub mod CloseSteps
pub mod CrashSteps
mod Ends
mod Exits
pub mod FailingLaws
pub mod Gaps
mod LastFile
pub mod LastFiles
pub mod Lifts
pub mod ClosedQueues
pub mod Numbers
pub mod OnDiskLaws
pub mod OneQueue
pub mod OpenSteps
mod Opened
pub mod OtherSteps
mod PairNumbers
mod PairSpans
pub mod Pairing
pub mod Reading
pub mod ReadingAgain
pub mod Refused
pub mod RefusedStep
pub mod Rotations
pub mod Signatures
pub mod Spans
pub mod Stopped
pub mod Telling
pub mod Wholes
pub mod Written
