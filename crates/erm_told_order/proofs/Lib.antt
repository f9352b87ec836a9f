pub mod Places
pub mod Sessions
pub mod Histories
pub mod Orders
pub mod Ends
pub mod Safe
pub mod Among
pub mod Courses
