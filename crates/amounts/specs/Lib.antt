pub mod Weighed
pub mod Keys
pub mod Steps
