pub mod Applications
pub mod Second
