pub mod Gains
pub mod Crossing
pub mod Lengths
pub mod Yielding
