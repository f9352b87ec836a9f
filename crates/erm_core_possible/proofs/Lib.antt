pub mod Beside
pub mod Fitting
