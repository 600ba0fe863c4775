pub mod Spans
pub mod Inside
pub mod Kept
