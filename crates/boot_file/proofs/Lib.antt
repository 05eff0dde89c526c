pub mod Labels
pub mod Placed
pub mod Empty
