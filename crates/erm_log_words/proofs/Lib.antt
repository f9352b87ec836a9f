pub mod Empty
pub mod LogWords
mod Slots
pub mod Windows
