pub mod Views
pub mod Fronts
pub mod Growing
pub mod Sorting
pub mod Heights
pub mod Formed
pub mod Files
pub mod Twos
