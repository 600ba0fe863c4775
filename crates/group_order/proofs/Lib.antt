pub mod Sizing
pub mod Keying
pub mod Entries
pub mod Ordering
