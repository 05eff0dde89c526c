pub mod Looking
pub mod NamesKept
pub mod Shown
pub mod Reader
pub mod ReaderKept
pub mod Telling
