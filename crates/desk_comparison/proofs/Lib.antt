pub mod Firsts
pub mod Rooms
pub mod Applications
pub mod Makes
pub mod Notes
pub mod Ends
