pub mod Placing
pub mod Crossing
