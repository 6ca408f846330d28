mod Beside
mod Laws
mod Sized
mod Alike
mod Moved
mod Levels
mod SameValues
mod Agreements
mod KnownValues
mod Places
mod SameCodes
mod SameSteps
mod SameClasses
pub mod Deciding
pub mod Verdicts
mod Merge
pub mod Found
