mod Indices
mod Steps
mod Advance
pub mod Begins
mod Fits
