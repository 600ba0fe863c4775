pub mod Derived
pub mod Growing
