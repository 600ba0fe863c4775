pub mod Reached
pub mod Work
