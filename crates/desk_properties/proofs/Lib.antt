pub mod Natural
pub mod Logical
pub mod Places
pub mod Skips
pub mod Escapes
pub mod Fronts
pub mod Parts
pub mod Files
