pub mod Backward
pub mod Notes
