pub mod Classes
pub mod Files
pub mod Targets
pub mod Second
pub mod Sources
