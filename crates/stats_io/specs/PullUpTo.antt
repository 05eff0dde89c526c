-- What came from a source that was pulled up to a limit. This project's own.
use Rattle.std.specs.Prelude.{◌≡◌, ◌<◌, ◌≤◌, ℕ, List, ◌++◌}
use Rattle.std.specs.Io.KnownBytes.{Consumes, IsAtEnd}
use Rattle.stat_defs.specs.Faults.{Rose}
use Rattle.stats_io.specs.States.{SourceState}
use Rattle.stats_io.specs.declared.pulling.Pulled.{Pulled}
use Rattle.stats_io.specs.declared.pulling.Pulled.TheVariants.{End, Failed, TooMany}

-- what the source lost stands at the end of the bytes
pub record Grows (before after : SourceState) (old new : List ℕ) : Type 0 where
  pub got : List ℕ
  pub appended : new ≡ old ++ got
  pub consumed : Consumes before.left after.left got

-- why the pulling stopped, with so many bytes there
abbrev pub StopsBy : Pulled → ℕ → SourceState → SourceState → ℕ → Type 0
StopsBy End limit before after count = (count ≤ limit) × IsAtEnd after.left
StopsBy Failed limit before after count = (count ≤ limit) × Rose before.faults after.faults
StopsBy TooMany limit before after count = limit < count
