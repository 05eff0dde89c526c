pub mod Listed
pub mod Following
pub mod Brought
pub mod Readings
pub mod Told
