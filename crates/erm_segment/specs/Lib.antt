pub mod Place
pub mod Pieces
