pub mod Databases
pub mod LongNames
