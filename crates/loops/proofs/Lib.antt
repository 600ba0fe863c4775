pub mod Sides
pub mod Kept
pub mod Closing
pub mod Sounds
pub mod Replaced
pub mod Starting
pub mod Grows
pub mod Passing
