pub mod Findings
pub mod Held
pub mod Order
pub mod Verdicts
pub mod Waiting
