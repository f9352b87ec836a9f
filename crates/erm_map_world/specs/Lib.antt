pub mod MapWorks
pub mod MapWorld
pub mod Standing
