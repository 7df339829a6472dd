pub mod Ages
pub mod Decisions
pub mod Inferred
pub mod Newest
pub mod Shapes
