pub mod Following
pub mod Compared
