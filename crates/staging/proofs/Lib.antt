pub mod Drawn
pub mod Links
pub mod Tests
pub mod Signs
pub mod Hits
