pub mod Laws
pub mod Owes
