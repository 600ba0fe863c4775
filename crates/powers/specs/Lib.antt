pub mod Powers
pub mod Blocks
