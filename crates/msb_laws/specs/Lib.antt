pub mod Asking
pub mod Faults
pub mod Gains
pub mod Results
pub mod Traverse
pub mod Words
