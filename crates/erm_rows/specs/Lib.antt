pub mod Active
pub mod Claims
pub mod Reads
pub mod Safe
pub mod Took
pub mod Tidies
