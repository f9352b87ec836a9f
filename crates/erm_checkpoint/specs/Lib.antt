pub mod Saved
pub mod Steps
pub mod Phases
pub mod Taken
pub mod Below
