pub mod Less
pub mod Twins
pub mod Along
