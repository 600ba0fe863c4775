pub mod Buffers
pub mod Evaluation
pub mod Marked
pub mod Values
