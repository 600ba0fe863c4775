pub mod Glushkov
pub mod Tables
pub mod Runs
pub mod Chains
