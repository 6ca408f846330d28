pub mod Sections
pub mod Folding
pub mod Reading
