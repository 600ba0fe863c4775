pub mod Bytes
pub mod Ordered
