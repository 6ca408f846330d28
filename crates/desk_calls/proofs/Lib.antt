pub mod Totals
pub mod ClassFiles
