pub mod Traversing
pub mod Distinct
pub mod Spoken
pub mod Finding
pub mod Numbering
pub mod Spreading
pub mod Outcome
