pub mod Keys
pub mod Words
pub mod Links
pub mod Searching
pub mod Inserting
pub mod Growing
pub mod Copying
