pub mod Lasting
pub mod LawKept
pub mod LivesKept
pub mod LivesLists
pub mod LivesMoved
pub mod Openings
pub mod Recalls
