pub mod Booleans
pub mod Amounts
pub mod AmountExamples
pub mod Decide
pub mod Trees
pub mod Constants
