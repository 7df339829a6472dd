pub mod Leaving
pub mod Marked
pub mod Seats
pub mod Turns
