pub mod Numbering
pub mod Sets
pub mod Orders
pub mod Clashing
pub mod Laws
pub mod Alike
pub mod Building
pub mod Stranding
pub mod Links
pub mod Counting
pub mod Kept
mod Lately
