pub mod Calls
pub mod Tallied
pub mod Operands
pub mod Tests
pub mod Paths
