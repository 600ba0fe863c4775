pub mod Cells
pub mod Upto
pub mod Building
pub mod Linked
pub mod Trees
pub mod Worked
