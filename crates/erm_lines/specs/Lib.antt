pub mod Answers
pub mod Executions
pub mod Laws
pub mod Looks
pub mod Operations
pub mod Told
pub mod Whole
