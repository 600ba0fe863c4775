pub mod Cells
pub mod Frames
pub mod Rest
pub mod Filling
pub mod Fitting
