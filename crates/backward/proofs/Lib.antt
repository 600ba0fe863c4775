pub mod Filling
pub mod Telling
pub mod Hitting
pub mod Sweeping
pub mod Ranking
