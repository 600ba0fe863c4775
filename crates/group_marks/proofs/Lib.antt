pub mod Noting
pub mod Raising
pub mod Grouping
