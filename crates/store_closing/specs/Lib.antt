pub mod Closes
pub mod Pieces
pub mod Sorting
