pub mod Laws
pub mod Touched
