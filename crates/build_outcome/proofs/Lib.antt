pub mod Counting
pub mod NoStops
pub mod OutcomesAgree
pub mod RootOver
