pub mod NormalLaws
pub mod PartLaws
pub mod Walks
