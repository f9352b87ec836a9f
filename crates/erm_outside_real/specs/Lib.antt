pub mod Calls
pub mod Faults
pub mod Folder
pub mod FolderDisk
pub mod Streams
