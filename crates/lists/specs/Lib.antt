pub mod Lists
pub mod Text
pub mod Blanks
pub mod Numerals
