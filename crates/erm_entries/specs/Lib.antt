pub mod Calls
pub mod Ends
pub mod Spelling
pub mod Took
