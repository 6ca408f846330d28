pub mod Services
pub mod Reading
pub mod Faults
