pub mod Gathering
pub mod Machines
