pub mod LoadRun
pub mod Files
pub mod Laws
