pub mod Run
pub mod Broken
