pub mod Detours
pub mod Visits
