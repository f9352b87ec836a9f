pub mod Leads
pub mod Printable
pub mod Texts
pub mod Turns
