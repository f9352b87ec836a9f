pub mod Reports
pub mod Seats
pub mod Serial
pub mod Sessions
pub mod Tables
pub mod Writes
