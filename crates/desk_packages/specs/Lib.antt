pub mod Renames
pub mod Keys
pub mod Sought
pub mod Fronts
