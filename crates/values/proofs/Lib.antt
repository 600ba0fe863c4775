pub mod Texts
pub mod Cursor
