pub mod Saves
pub mod SavesRoom
