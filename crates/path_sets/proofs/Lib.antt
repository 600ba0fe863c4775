pub mod Truth
pub mod SetLaws
pub mod Shapes
pub mod Scans
