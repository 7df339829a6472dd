pub mod Answers
pub mod Functions
pub mod Names
pub mod Numbers
pub mod Texts
