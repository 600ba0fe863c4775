pub mod Widening
pub mod Framing
pub mod Grows
pub mod Starting
pub mod Seeding
