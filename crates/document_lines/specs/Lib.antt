pub mod Nodes
pub mod Entries
