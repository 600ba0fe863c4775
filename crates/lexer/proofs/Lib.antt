pub mod Passing
pub mod Classes
pub mod Laws
pub mod Numbers
pub mod Keys
