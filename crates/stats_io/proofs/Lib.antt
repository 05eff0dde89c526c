pub mod Pieces
pub mod FirstNamed
pub mod Front
