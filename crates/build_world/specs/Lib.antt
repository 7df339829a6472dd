pub mod Answers
pub mod Elements
pub mod Faults
pub mod Instances
pub mod Places
pub mod Readings
