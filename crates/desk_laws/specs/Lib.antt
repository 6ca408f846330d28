pub mod Sound
pub mod Pools
pub mod NewPools
pub mod Classes
pub mod Values
pub mod Missing
