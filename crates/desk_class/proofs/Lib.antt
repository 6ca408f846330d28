pub mod Answering
mod Apart
mod Bare
mod Scans
pub mod Heads
mod Uses
mod Bodies
mod Pairs
pub mod Ascending
pub mod Named
mod Formed
pub mod Once
mod Packing
mod Sets
mod Wholes
mod Views
mod Numbering
mod Told
mod Standing
mod Whole
