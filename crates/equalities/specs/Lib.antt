pub mod Equalities
pub mod Steps
