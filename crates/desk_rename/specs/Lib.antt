pub mod Fronts
pub mod Images
pub mod Drafts
pub mod Laws
