pub mod Draws
pub mod Elements
pub mod Projects
pub mod Sets
