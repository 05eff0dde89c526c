pub mod Calling
pub mod Making
pub mod Owned
