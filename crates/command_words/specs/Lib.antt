pub mod Command
pub mod Options
pub mod Sorted
pub mod Views
