pub mod Ready
pub mod Tallies
