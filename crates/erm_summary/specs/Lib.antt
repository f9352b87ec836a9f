pub mod Summary
pub mod Tables
pub mod Told
