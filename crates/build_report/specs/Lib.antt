pub mod Checked
pub mod Line
pub mod Eval
pub mod Targets
pub mod Runs
pub mod Shown
pub mod Refused
