pub mod Searches
pub mod Segments
pub mod Sorting
pub mod Fronts
pub mod Blocks
pub mod Rising
pub mod Naming
