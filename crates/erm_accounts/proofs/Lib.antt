pub mod Found
pub mod Skew
pub mod Solvent
pub mod Sums
pub mod Totals
