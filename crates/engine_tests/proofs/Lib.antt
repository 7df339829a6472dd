pub mod Others
