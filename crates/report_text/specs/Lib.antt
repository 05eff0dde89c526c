pub mod ReportText
pub mod Parts
