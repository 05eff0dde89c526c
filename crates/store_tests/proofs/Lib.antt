mod TriedFlushes
