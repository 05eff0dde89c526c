-- What contracts see of the sources in memory. This project's own.
use Rattle.std.specs.Prelude.{ℕ, ◌+◌, ◌-◌, ◌^◌, min, List, Some, drop}
use Rattle.stats_io.specs.States.{SourceState}
use Rattle.stats_io.specs.declared.source.Pull.{Pull}
use Rattle.stats_io.specs.declared.source.Pull.TheVariants.{Bytes, End, Failed}

-- where its bytes come from, those that are left, the greatest piece, which pulls fail, and how many were made and
-- failed
pub record MemSourceState : Type 0 where
  pub origin : List ℕ
  pub left : List ℕ
  pub piece : ℕ
  pub fails : List ℕ
  pub calls : ℕ
  pub faults : ℕ

-- it tells its bytes
abbrev pub as_source : MemSourceState → SourceState
as_source s = record { left = Some s.left; origin = s.origin; faults = s.faults }

-- one more, up to the last value of 64 bits
abbrev pub counted : ℕ → ℕ
counted n = min (n + 1) (2 ^ 64 - 1)

-- a pull takes what it gives, and it is counted; a failed one is counted as failed too
abbrev pub pulled : Pull → MemSourceState → MemSourceState
pulled (Bytes k) s = record s { left = drop k s.left; calls = counted s.calls }
pulled End s = record s { calls = counted s.calls }
pulled Failed s = record s { calls = counted s.calls; faults = counted s.faults }

-- of a source that never fails
pub record SureSourceState : Type 0 where
  pub origin : List ℕ
  pub left : List ℕ
  pub piece : ℕ

-- it tells its bytes, and its count is 0
abbrev pub as_sure_source : SureSourceState → SourceState
as_sure_source s = record { left = Some s.left; origin = s.origin; faults = 0 }
