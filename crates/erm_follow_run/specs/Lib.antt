pub mod Draining
pub mod Ends
pub mod Following
pub mod Texts
