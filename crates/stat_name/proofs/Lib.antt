pub mod Spellings
pub mod Reading
pub mod Storing
