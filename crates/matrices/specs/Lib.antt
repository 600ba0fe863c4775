pub mod Matrices
pub mod Widening
