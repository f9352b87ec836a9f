pub mod Logs
pub mod Restores
pub mod Rooms
pub mod Snapshots
pub mod Stands
