pub mod Formats
pub mod Found
pub mod OverFile
pub mod Statements
pub mod WorkingFolder
