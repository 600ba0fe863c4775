pub mod Paths
pub mod Scanned
