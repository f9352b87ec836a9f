pub mod Down
pub mod Ending
pub mod Going
pub mod Looks
pub mod Nobody
pub mod Places
pub mod Turning
