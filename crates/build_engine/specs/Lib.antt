pub mod OnNodes
pub mod Statuses
pub mod UsedFor
