pub mod Tests
pub mod Owned
pub mod Numbering
pub mod Walks
pub mod Orders
