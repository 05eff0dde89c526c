pub mod Load
pub mod Kept
