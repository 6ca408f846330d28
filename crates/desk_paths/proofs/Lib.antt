pub mod Roots
pub mod Stays
pub mod TargetLaws
pub mod Walked
pub mod Folders
pub mod Relative
pub mod Answered
