pub mod Entries
pub mod Seats
pub mod Worker
pub mod WorkerKept
pub mod Sums
pub mod Store
pub mod StoreKept
