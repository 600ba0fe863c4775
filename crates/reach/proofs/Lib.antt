pub mod Walks
pub mod Totals
pub mod Adding
pub mod Entering
pub mod Clearing
pub mod Keeping
pub mod Spreading
pub mod Reaching
