pub mod Drawn
pub mod Sources
