pub mod Snippets
pub mod Count
pub mod Marks
pub mod Ways
pub mod Direct
pub mod Halves
pub mod Values
pub mod LargestFirst
