pub mod Written
pub mod Joined
pub mod Kinds
pub mod RuleFaults
pub mod Texts
pub mod Pieces
pub mod InMemory
