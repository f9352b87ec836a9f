pub mod Ended
pub mod Lists
pub mod Made
pub mod Worked
