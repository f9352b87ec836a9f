pub mod Given
pub mod SafeTxns
pub mod Saved
pub mod Txns
