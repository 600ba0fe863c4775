pub mod Clearing
pub mod Composition
