pub mod Searches
pub mod Fronts
pub mod Zeros
pub mod NotedSteps
pub mod SyncCounts
pub mod Picked
pub mod Plays
pub mod NotedWaits
