pub mod Decide
pub mod Lists
pub mod Blanks
pub mod Numerals
pub mod Search
pub mod Indices
pub mod Members
