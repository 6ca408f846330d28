pub mod NameImages
pub mod TreeNames
pub mod Follow
