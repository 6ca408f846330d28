pub mod Tables
pub mod Wanting
pub mod Counts
pub mod Refused
pub mod Laws
pub mod Unchanged
