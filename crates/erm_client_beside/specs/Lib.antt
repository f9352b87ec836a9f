pub mod Back
pub mod Jobs
pub mod Left
pub mod Lists
pub mod Ran
