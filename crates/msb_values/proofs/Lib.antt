pub mod Causing
pub mod Escaping
pub mod Folding
pub mod Lookups
pub mod Sets
pub mod Spaces
