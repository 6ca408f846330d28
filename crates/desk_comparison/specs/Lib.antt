pub mod Sizes
pub mod Images
pub mod Files
pub mod Told
pub mod Answers
pub mod Makings
pub mod Halts
