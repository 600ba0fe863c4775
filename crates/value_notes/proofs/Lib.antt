pub mod Extents
pub mod Values
pub mod Columns
pub mod Noting
pub mod Nexts
pub mod Marking
pub mod Annotated
