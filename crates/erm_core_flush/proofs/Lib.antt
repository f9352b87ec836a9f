pub mod Turns
pub mod Forth
pub mod Stays
pub mod Whole
