pub mod Staging
pub mod Snippeting
