pub mod Public
pub mod Sizes
pub mod Equality
pub mod Bytes
pub mod ReplyTexts
pub mod ReadingBack
