pub mod Admin
pub mod Rows
pub mod Order
