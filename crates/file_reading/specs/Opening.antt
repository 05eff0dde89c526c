-- What an opening of a file comes to. This project's own.
use Rattle.std.specs.Prelude.{◌≡◌, ℕ, Option, Result, Ok, Err, List}
use Rattle.stat_defs.specs.declared.reports.FileEnd.TheVariants.{NotOpened}
use Rattle.stat_defs.specs.declared.reports.WorkerEnd.{WorkerEnd}
use Rattle.stats_io.specs.States.{SourceState, ShelfState}
use Rattle.stats_io.specs.Open.{IsUnpulled}
use Rattle.file_reading.specs.WorkerEnd.{IsFailedOpening}

module _ {F S : Type 0} (shelf : F → ShelfState) (source : S → SourceState) where
  -- The file of that name, which holds this content, was opened, and nothing was pulled of it; or it could not be
  -- opened, and this is its end, which has its cause.
  abbrev pub OpensFile : Option (List ℕ) → List ℕ → F → F → Result S WorkerEnd → Type 0
  OpensFile content name before after (Ok opened) =
      IsUnpulled content name (source opened) × (shelf after ≡ shelf before)
  OpensFile content name before after (Err end) =
      (end.end ≡ NotOpened) × IsFailedOpening source content name (shelf before) (shelf after) end
