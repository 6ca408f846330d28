mod Instructions
mod Arrays
mod Methods
pub mod Whole
