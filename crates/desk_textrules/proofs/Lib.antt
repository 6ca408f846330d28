pub mod Rows
pub mod Pieces
pub mod Stays
pub mod Lengths
