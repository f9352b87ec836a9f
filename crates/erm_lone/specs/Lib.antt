pub mod Later
pub mod Moving
pub mod Within
