pub mod Clashes
pub mod Known
pub mod ClashLaws
