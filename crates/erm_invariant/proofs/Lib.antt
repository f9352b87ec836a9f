pub mod Reading
pub mod Throughout
