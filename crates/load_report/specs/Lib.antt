pub mod LoadRun
pub mod LoadReport
