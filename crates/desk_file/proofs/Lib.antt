pub mod ClassImages
pub mod Alone
pub mod Noting
pub mod Treating
