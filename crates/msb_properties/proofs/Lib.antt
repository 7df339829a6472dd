pub mod Folds
pub mod Steps
pub mod Heights
pub mod Taken
pub mod Layouts
pub mod Named
pub mod Passing
