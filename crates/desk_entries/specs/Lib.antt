pub mod Forms
pub mod Exchanges
pub mod Entries
