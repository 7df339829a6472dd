pub mod Ordered
pub mod Counting
pub mod Drawing
