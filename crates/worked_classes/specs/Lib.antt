pub mod Samples
pub mod Servlet
pub mod Renames
pub mod Compiled
