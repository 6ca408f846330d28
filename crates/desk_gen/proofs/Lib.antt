pub mod Paths
pub mod Bytes
mod Rows
