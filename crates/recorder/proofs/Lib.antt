pub mod HandLemmas
pub mod UnitLemmas
pub mod SeatMoves
pub mod RecorderLemmas
pub mod PollLemmas
pub mod WorkLemmas
pub mod WorkerTied
