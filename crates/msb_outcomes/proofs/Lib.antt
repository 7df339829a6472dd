pub mod Beginning
pub mod Compared
pub mod Working
