mod StoreKept
mod StoreShown
mod LinesRead
mod LinesFlushed
mod InTurn
pub mod Counted
