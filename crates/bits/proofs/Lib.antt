pub mod SetLaws
pub mod SquareLaws
