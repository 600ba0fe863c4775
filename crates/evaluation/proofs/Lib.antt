pub mod Ranking
pub mod Calls
pub mod Selecting
