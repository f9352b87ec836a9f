pub mod Alone
pub mod Among
pub mod Ranked
pub mod There
pub mod Unsealed
pub mod Whole
