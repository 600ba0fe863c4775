pub mod Booleans
pub mod Amounts
pub mod Reading
pub mod Syntax
pub mod Tree
pub mod Meaning
