pub mod Determined
pub mod Fronts
pub mod InTurn
pub mod Keys
pub mod Members
pub mod OnMap
mod Ranges
pub mod Records
pub mod RowCalls
pub mod Runs
pub mod Savings
pub mod Scans
pub mod Stays
