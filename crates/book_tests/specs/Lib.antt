pub mod Free
pub mod Tried
