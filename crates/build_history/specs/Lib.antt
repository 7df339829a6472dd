pub mod Began
pub mod Places
pub mod Repeated
pub mod Uses
