-- What contracts see of a sink in memory. This project's own.
use Rattle.std.specs.Prelude.{ℕ, List, ◌++◌, Some, take}
use Rattle.stats_io.specs.States.{SinkState}
use Rattle.stats_io.specs.MemSource.{counted}
use Rattle.stats_io.specs.declared.sink.Push.{Push}
use Rattle.stats_io.specs.declared.sink.Push.TheVariants.{Took, Failed}

-- what was written, its room, the greatest piece, which pushes fail, and how many were made and failed
pub record MemSinkState : Type 0 where
  pub written : List ℕ
  pub room : ℕ
  pub piece : ℕ
  pub fails : List ℕ
  pub calls : ℕ
  pub faults : ℕ

-- a push appends what it takes of the piece, and it is counted; a failed one is counted as failed too
abbrev pub pushed : Push → List ℕ → MemSinkState → MemSinkState
pushed (Took k) bytes s = record s { written = s.written ++ take k bytes; calls = counted s.calls }
pushed Failed bytes s = record s { calls = counted s.calls; faults = counted s.faults }

-- it tells its bytes
abbrev pub as_sink : MemSinkState → SinkState
as_sink s = record { written = Some s.written; faults = s.faults }
