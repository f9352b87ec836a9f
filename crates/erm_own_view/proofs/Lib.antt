pub mod Along
pub mod Begins
pub mod Drawn
pub mod Lawful
pub mod Own
pub mod Owners
pub mod SafeStamps
pub mod Staying
