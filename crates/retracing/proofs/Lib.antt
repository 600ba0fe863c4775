pub mod Linked
pub mod Preceding
pub mod Entries
pub mod Retracing
pub mod Spreading
pub mod Ending
pub mod Noting
pub mod Seeding
