pub mod Rest
pub mod Stretching
