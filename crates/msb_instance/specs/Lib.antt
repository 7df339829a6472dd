pub mod Targets
pub mod Evaluated
pub mod Made
pub mod Kept
pub mod KeptOnce
pub mod KeyEquality
