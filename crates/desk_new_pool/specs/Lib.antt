pub mod Wants
pub mod Keeps
pub mod Places
pub mod Refusals
pub mod Sought
pub mod NewTexts
pub mod Twins
pub mod Printing
