pub mod GlobalProperties
pub mod Parameters
pub mod Calls
pub mod Plans
pub mod Gathered
