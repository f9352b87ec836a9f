pub mod InReach
pub mod OfCases
