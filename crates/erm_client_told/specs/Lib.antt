pub mod Starved
pub mod Told
