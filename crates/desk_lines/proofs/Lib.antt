pub mod LineLaws
pub mod FirstEnds
pub mod Cuts
pub mod Trimming
