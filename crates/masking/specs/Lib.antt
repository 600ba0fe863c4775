pub mod Masking
pub mod Alike
pub mod Pairs
