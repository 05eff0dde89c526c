pub mod Logs
pub mod Leaves
