pub mod ServiceLaws
pub mod Places
pub mod Exchanged
pub mod Migrating
pub mod Rows
