pub mod Backs
pub mod Others
pub mod Rings
