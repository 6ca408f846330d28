pub mod Limits
pub mod Standing
pub mod Apart
pub mod Routes
pub mod Rulings
pub mod RuleFolders
pub mod Faults
pub mod Halts
