pub mod Members
pub mod Following
pub mod Preceding
pub mod Drawing
pub mod Pairs
pub mod Emptiness
pub mod Widening
