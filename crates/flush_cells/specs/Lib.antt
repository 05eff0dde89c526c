pub mod Cells
pub mod Asks
pub mod Passes
pub mod Late
pub mod Taken
