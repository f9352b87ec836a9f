pub mod Laws
pub mod Logged
pub mod Spare
