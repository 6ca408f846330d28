pub mod Works
pub mod Notes
pub mod Stops
pub mod Fresh
pub mod Inputs
pub mod Turns
pub mod Details
