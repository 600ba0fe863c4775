pub mod Relations
pub mod Relates
pub mod Compared
