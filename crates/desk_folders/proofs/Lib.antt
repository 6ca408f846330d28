pub mod Below
pub mod Members
pub mod Entries
pub mod FirstPaths
