pub mod Blocks
pub mod Adding
pub mod Growing
pub mod Families
pub mod Lowering
pub mod Counting
