pub mod Banks
pub mod Tellers
