pub mod Tags
pub mod Lawful
pub mod Sinks
pub mod Scopes
pub mod Boot
