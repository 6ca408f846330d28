pub mod Scans
pub mod Firsts
pub mod Between
pub mod Items
pub mod Edited
pub mod Walked
