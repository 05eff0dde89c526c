pub mod Spelling
pub mod StoredName
