pub mod Certificates
pub mod Scans
