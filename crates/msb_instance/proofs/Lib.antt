pub mod Placing
pub mod Rowing
pub mod Keeping
pub mod Crossing
