pub mod Session
pub mod Printed
