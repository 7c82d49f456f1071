pub mod NoLog
