pub mod ThreeCopies
