pub mod Clients
pub mod Dealings
pub mod Laws
pub mod Refusals
pub mod Stretches
pub mod Transcripts
