pub mod Keys
pub mod Scans
