pub mod Cuts
pub mod Runs
pub mod Starved
pub mod Works
