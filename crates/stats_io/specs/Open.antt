-- What an opening does.
use Rattle.std.specs.Prelude.{◌≡◌, ℕ, Option, List}
use Rattle.std.specs.Io.KnownBytes.{Keeps}
use Rattle.stat_defs.specs.Faults.{Rose}
use Rattle.stats_io.specs.States.{SourceState, ShelfState}

-- a source that was opened under that name has all its content left, where the shelf tells it, and no pull of it has
-- failed
pub record IsUnpulled (content : Option (List ℕ)) (name : List ℕ) (source : SourceState) : Type 0 where
  pub left : Keeps content source.left
  pub origin : source.origin ≡ name
  pub no_faults : source.faults ≡ 0

-- the opening of that name failed last, and the shelf's count rose
pub record IsUnopened (name : List ℕ) (before after : ShelfState) : Type 0 where
  pub rose : Rose before.faults after.faults
  pub failed : after.failed ≡ name
