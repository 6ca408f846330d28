pub mod ChainFiles
pub mod Closing
pub mod Packages
