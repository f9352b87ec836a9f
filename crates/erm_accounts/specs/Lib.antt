pub mod Accounts
pub mod Totals
