pub mod Tools
pub mod Failures
pub mod Answers
pub mod Rows
pub mod Params
pub mod Escaping
