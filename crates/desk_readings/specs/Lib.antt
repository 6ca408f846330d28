pub mod Sizes
pub mod Parts
pub mod Readings
pub mod Slices
pub mod Faults
pub mod Noting
