pub mod Halves
pub mod SideKept
