pub mod Loops
pub mod Closed
pub mod Sound
pub mod Growing
