pub mod OpenedObjects
pub mod Openings
pub mod Steps
