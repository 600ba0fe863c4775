pub mod Counts
pub mod Lights
pub mod Counted
pub mod Following
pub mod Orders
pub mod Shapes
pub mod Bracketing
