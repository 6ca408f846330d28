pub mod Lines
pub mod NamedLists
pub mod Nests
