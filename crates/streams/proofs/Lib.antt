pub mod Splitting
pub mod Marks
