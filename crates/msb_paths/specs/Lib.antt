pub mod Answer
pub mod Join
pub mod Normal
pub mod Parts
pub mod Presence
pub mod Refused
pub mod Segments
