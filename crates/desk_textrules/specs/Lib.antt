pub mod TextImages
pub mod Reading
pub mod Faults
