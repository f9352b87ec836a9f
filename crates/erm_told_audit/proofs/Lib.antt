pub mod Audits
pub mod Fronts
