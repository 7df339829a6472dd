pub mod Begun
pub mod Callers
pub mod Demands
pub mod Events
pub mod Holding
pub mod Journals
pub mod Rests
pub mod SteadyVerdicts
