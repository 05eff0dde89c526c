pub mod Shown
pub mod Parts
pub mod Flusher
pub mod FlusherKept
