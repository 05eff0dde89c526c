pub mod AppliedEvents
pub mod OneThread
pub mod AppliedReport
pub mod FilesReported
pub mod SoFar
pub mod FilesRead
pub mod HeldAlike
