pub mod Constants
pub mod Sweeps
