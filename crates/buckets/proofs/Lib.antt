pub mod Least
pub mod Bucketing
