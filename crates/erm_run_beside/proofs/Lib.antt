pub mod More
pub mod Failed
pub mod Ends
pub mod Worked
pub mod Over
pub mod Closing
