pub mod Writes
pub mod Links
pub mod Tabled
