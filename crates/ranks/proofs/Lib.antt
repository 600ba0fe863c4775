pub mod Order
pub mod Insertion
pub mod Sorting
pub mod Rises
pub mod Numbering
pub mod Ranked
pub mod Kept
