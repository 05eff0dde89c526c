pub mod Applying
pub mod FileRun
pub mod ReplayReport
