pub mod Nearing
pub mod Placing
pub mod Targets
