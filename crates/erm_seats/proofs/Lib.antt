pub mod Beginning
pub mod Looks
pub mod Raising
pub mod Sealing
pub mod Stamps
pub mod Surveying
pub mod Took
