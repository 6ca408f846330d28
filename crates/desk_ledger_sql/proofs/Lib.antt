pub mod Statements
pub mod Rows
pub mod Shown
pub mod Changes
pub mod Puts
pub mod Targets
pub mod Headers
pub mod Kept
