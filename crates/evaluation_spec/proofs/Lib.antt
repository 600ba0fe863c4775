pub mod Judged
pub mod ValuesJudged
pub mod Agreement
pub mod Examples
pub mod Bound
pub mod Values
