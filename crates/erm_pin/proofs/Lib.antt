pub mod Looking
pub mod Pinning
pub mod RowWords
