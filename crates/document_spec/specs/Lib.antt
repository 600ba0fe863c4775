pub mod Library
pub mod Binary
pub mod Verdict
pub mod Example
pub mod Intervals
pub mod Fields
pub mod Good
pub mod Attributes
