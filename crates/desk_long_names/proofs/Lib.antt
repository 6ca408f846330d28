mod Cuts
pub mod ShortNames
