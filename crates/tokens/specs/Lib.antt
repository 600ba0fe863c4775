pub mod Tallies
pub mod Readers
pub mod Numbers
pub mod Heads
