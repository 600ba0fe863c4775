pub mod Words
pub mod Noting
pub mod Settling
