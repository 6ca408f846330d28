pub mod Seen
pub mod Begins
pub mod Bodies
pub mod Fits
