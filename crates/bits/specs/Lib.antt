pub mod Sets
pub mod Square
