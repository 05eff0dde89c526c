pub mod WorkerEnd
pub mod FileRead
pub mod SourceRead
pub mod Opening
