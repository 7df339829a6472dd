pub mod Answers
pub mod Grammar
pub mod Given
pub mod Words
pub mod Values
pub mod Options
