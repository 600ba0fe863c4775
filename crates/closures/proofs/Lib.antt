pub mod Chains
pub mod Rows
pub mod Warshall
