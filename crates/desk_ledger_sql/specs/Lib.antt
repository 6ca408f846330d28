pub mod Told
pub mod OverSql
pub mod Kept
