pub mod Calls
pub mod Checked
pub mod OnNodes
pub mod Outcomes
pub mod Trials
