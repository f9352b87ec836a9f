pub mod Denials
pub mod Laws
pub mod Moves
pub mod Plans
pub mod Served
pub mod Tellers
pub mod Tries
