pub mod Bytes
pub mod Agreement
pub mod Comparison
