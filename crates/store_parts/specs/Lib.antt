pub mod Whole
pub mod Ids
