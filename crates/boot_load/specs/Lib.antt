pub mod Asked
pub mod Load
pub mod Build
pub mod BootLine
