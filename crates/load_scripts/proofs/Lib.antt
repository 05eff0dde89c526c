pub mod Lawful
pub mod Files
pub mod Behind
