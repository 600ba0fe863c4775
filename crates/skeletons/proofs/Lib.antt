pub mod Judging
pub mod Climbing
