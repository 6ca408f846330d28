pub mod Lines
pub mod Entries
pub mod Properties
pub mod Reading
