pub mod Bare
pub mod CellReads
pub mod Lasting
pub mod Racing
pub mod Sessions
pub mod Skewing
