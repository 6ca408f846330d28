pub mod Chains
pub mod Gifts
