pub mod Marking
pub mod Clearing
