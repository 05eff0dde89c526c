pub mod JobsDone
pub mod Places
pub mod GatheredMore
pub mod AllBack
pub mod Started
pub mod WorkersDone
pub mod ReportMade
pub mod RunDone
