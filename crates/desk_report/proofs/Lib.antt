pub mod Gathering
mod Rows
mod Taken
