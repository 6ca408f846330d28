pub mod Heads
pub mod Modules
