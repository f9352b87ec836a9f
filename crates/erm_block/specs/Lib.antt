pub mod Block
pub mod Spelling
pub mod LogList
