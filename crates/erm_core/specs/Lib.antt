pub mod Cores
pub mod Kinds
pub mod Ready
pub mod Rooms
pub mod Seats
