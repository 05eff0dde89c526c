pub mod TriedFlushes
