mod Table
pub mod OneByOne
pub mod Nexts
pub mod Within
mod Rows
mod Gathers
pub mod BareTrees
mod BareLayouts
pub mod Placing
pub mod Whole
