pub mod Workers
pub mod Flushes
pub mod Readings
pub mod Gathering
pub mod Starting
pub mod Returning
pub mod Reporting
pub mod Run
