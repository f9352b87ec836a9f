pub mod Node
pub mod Tree
pub mod Sound
pub mod TreeMap
pub mod NodeShape
pub mod Walk
