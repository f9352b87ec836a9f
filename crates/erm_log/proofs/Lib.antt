pub mod Looking
pub mod Pushing
pub mod Walking
pub mod Whole
