pub mod Kept
pub mod Shape
pub mod Walking
pub mod Comparing
