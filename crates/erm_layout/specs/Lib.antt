pub mod Layout
pub mod Spots
