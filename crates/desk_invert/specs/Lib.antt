pub mod Inverse
pub mod Files
pub mod Answers
pub mod Laws
pub mod Exchanged
