pub mod Following
pub mod Gathering
pub mod Lines
pub mod Pairs
pub mod Rising
