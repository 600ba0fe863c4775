pub mod Less
pub mod Moving
pub mod SameTexts
pub mod Ends
