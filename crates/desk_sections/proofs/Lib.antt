pub mod Cutting
pub mod Written
pub mod Headed
