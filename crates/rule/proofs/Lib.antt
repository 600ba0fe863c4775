pub mod Counted
pub mod Tallied
pub mod Verdicts
