pub mod Names
pub mod Entries
pub mod Classes
pub mod Application
