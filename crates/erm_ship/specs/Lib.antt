pub mod Bases
pub mod Ends
pub mod Leads
pub mod Sends
pub mod Stops
pub mod Streams
