pub mod Collecting
pub mod Loops
pub mod Trees
