pub mod Summary
pub mod Summarized
