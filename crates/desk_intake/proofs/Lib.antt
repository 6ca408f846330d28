mod Ruling
pub mod There
pub mod Parts
pub mod Sizes
pub mod Taking
pub mod Routed
pub mod Short
pub mod Listed
