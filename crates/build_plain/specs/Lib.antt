pub mod Driven
pub mod Used
