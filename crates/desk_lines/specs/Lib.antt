pub mod Cuts
pub mod Blanks
pub mod Lines
pub mod FirstEnd
pub mod Laws
