pub mod Acting
pub mod Hands
pub mod Knowing
pub mod Calling
pub mod RecorderKept
pub mod Ending
pub mod Following
pub mod Tied
