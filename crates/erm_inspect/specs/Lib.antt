pub mod Audits
pub mod Maps
pub mod Recoveries
