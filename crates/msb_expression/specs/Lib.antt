pub mod Grammar
pub mod Refusals
pub mod Machine
pub mod Answers
pub mod Written
pub mod Reading
