pub mod Halving
pub mod Passes
