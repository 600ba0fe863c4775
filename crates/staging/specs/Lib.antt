pub mod Signs
pub mod Drawing
