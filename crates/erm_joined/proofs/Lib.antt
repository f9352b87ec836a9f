pub mod Answered
pub mod Closes
pub mod Order
