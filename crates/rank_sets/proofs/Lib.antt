pub mod Telling
pub mod Ended
pub mod Steady
pub mod Marking
pub mod Ranged
