pub mod Walks
pub mod Meaning
pub mod Shape
