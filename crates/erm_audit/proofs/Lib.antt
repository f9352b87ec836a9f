pub mod Transactions
pub mod Turns
