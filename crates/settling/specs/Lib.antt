pub mod Pairs
pub mod Settled
