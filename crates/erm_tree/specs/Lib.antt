pub mod Reads
pub mod Calls
pub mod Walk
pub mod Insert
pub mod Change
pub mod Step
pub mod Operations
pub mod Tables
