mod Dimensions
mod Segments
mod Found
mod Rows
