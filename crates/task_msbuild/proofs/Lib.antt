pub mod Zipped
pub mod AllThere
