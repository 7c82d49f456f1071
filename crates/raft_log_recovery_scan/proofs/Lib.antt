pub mod Public
pub mod NameLemmas
pub mod DirectoryLemmas
pub mod FoundLemmas
pub mod Steps
pub mod RunLemmas
pub mod OpeningLemmas
pub mod ScanLemmas
