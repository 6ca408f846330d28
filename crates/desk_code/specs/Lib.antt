pub mod Opcodes
pub mod Faults
pub mod Instructions
pub mod Codes
pub mod Gathering
pub mod Seen
