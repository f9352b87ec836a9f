pub mod Books
pub mod ByBooks
pub mod Good
pub mod Links
pub mod Named
