pub mod Quotes
pub mod Grammar
pub mod Edits
pub mod Cuts
pub mod Places
