pub mod Alone
pub mod Handed
pub mod Noted
