pub mod Chains
pub mod Pieces
pub mod Reads
pub mod Writes
