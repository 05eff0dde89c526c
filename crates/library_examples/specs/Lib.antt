pub mod StoreOf
pub mod Counting
