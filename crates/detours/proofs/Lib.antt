pub mod Detours
pub mod Beginning
