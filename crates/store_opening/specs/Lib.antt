pub mod Cells
pub mod Made
pub mod Dealing
pub mod Opening
