pub mod Lists
pub mod Opening
pub mod Recovering
pub mod Waiting
