pub mod RunShown
pub mod LoadRuns
pub mod RunCalls
mod Table
mod Causes
