pub mod Entries
pub mod Sought
