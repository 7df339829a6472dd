pub mod Containing
pub mod NumberLaws
pub mod Replacing
