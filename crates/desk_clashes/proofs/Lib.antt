pub mod Folders
pub mod Sets
pub mod Seen
pub mod Places
