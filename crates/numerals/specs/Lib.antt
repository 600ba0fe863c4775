pub mod Fits
pub mod Keys
pub mod Scans
