pub mod Headers
pub mod Manifests
pub mod Reading
pub mod Faults
