pub mod Ends
pub mod Invariants
pub mod Laws
pub mod Leaves
pub mod Ran
