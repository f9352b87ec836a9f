pub mod Ending
pub mod Going
pub mod Hearing
pub mod Puts
pub mod Told
