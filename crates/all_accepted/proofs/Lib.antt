pub mod InLists
pub mod States
pub mod Accepted
pub mod Named
pub mod Tight
pub mod Runs
pub mod Members
pub mod Lines
pub mod Files
mod AllAccepted
