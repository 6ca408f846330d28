pub mod Forms
pub mod Singles
pub mod Bools
pub mod Orderings
pub mod Lists
pub mod Results
pub mod Separated
pub mod TextEntries
