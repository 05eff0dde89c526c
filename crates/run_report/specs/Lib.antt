pub mod Opened
pub mod RunReport
