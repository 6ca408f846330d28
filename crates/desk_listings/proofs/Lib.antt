pub mod Items
pub mod Parameters
pub mod Clauses
