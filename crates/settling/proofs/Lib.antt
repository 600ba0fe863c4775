pub mod Settling
pub mod Answering
pub mod Reading
pub mod Finding
