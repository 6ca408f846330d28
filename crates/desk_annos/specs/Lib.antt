pub mod Stands
pub mod TagReads
