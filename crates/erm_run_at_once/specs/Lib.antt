pub mod Laws
pub mod Ran
pub mod Room
pub mod Told
