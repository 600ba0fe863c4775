pub mod Positions
pub mod Glushkov
