pub mod Chained
pub mod Full
pub mod Placed
pub mod Looked
pub mod Tried
