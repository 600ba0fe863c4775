pub mod Evaluators
pub mod Powered
