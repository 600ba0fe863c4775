pub mod Shapes
pub mod Listing
