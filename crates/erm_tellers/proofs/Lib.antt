pub mod Asked
pub mod Balance
pub mod Behind
pub mod Kept
pub mod Placed
pub mod Transfers
