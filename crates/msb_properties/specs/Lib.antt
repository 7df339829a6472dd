pub mod Settings
pub mod Propertied
pub mod Laid
pub mod Passed
pub mod Seen
pub mod ElementSets
