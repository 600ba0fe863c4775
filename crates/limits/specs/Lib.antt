pub mod Limits
pub mod Names
