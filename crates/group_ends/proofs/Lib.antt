pub mod Rest
pub mod Owning
pub mod Ascending
pub mod Around
