pub mod Spelling
pub mod Parts
pub mod Verdict
pub mod Bytes
pub mod Machine
pub mod Readers
