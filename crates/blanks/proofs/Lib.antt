pub mod Slices
pub mod Trimming
