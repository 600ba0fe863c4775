pub mod Descending
pub mod Adding
pub mod Lists
