pub mod Growing
pub mod Naming
pub mod Deciding
pub mod Polling
pub mod SeatKept
pub mod Following
