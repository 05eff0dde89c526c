pub mod CellLemmas
pub mod ListLemmas
pub mod Least
pub mod InStep
pub mod RoundLemmas
