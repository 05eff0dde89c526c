pub mod Appending
pub mod Ending
