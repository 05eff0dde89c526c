pub mod Asks
pub mod Running
