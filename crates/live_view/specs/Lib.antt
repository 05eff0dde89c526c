pub mod Live
pub mod LiveKept
