pub mod Nodes
pub mod Bounds
pub mod Joined
pub mod Told
