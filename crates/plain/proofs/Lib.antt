pub mod Steady
pub mod Signs
pub mod Walks
pub mod Compared
pub mod Answering
