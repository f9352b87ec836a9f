pub mod Calls
pub mod Ends
pub mod Face
pub mod Later
pub mod Laws
pub mod Onward
pub mod Safe
pub mod SafeFace
