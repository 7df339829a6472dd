pub mod Building
pub mod Using
pub mod ManyNodes
