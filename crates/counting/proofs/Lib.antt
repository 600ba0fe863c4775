pub mod Forgetting
pub mod Finding
pub mod Searching
pub mod Counting
