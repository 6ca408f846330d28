pub mod Listings
pub mod Files
pub mod Found
pub mod Told
pub mod Answers
pub mod Reading
