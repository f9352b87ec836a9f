pub mod Answers
pub mod CutRuns
pub mod Ends
pub mod Executions
pub mod Laws
pub mod Looks
pub mod Operations
pub mod Parts
