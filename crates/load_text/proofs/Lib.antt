pub mod Room
mod Appending
pub mod ReportsFit
