pub mod OwnSeats
pub mod WorkerLemmas
pub mod Numbers
pub mod Listed
pub mod CountersStay
pub mod StoreLemmas
pub mod FlushLemmas
pub mod FinishLemmas
