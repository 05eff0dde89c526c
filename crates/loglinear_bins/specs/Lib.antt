pub mod Bins
pub mod Counts
pub mod Table
