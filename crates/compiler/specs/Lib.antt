pub mod Gathered
pub mod Machines
