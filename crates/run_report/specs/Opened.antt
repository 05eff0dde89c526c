-- Files that were opened one after another, before any was read. This project's own.
use Rattle.std.specs.Prelude.{◌≡◌, ℕ, Option, Some, None, List, [], ◌∷◌, map}
use Rattle.stat_defs.specs.declared.reports.FileEnd.TheVariants.{NotOpened}
use Rattle.stat_defs.specs.declared.reports.WorkerEnd.{WorkerEnd}
use Rattle.stats_io.specs.States.{SourceState, ShelfState}
use Rattle.stats_io.specs.Open.{IsUnpulled}
use Rattle.file_reading.specs.WorkerEnd.{IsFailedOpening}
use Rattle.worker_run.specs.declared.given.Given.{Given}
use Rattle.worker_run.specs.declared.given.Given.TheVariants.{Opened, Missing}
use Rattle.run_report.specs.declared.openings.Opening.{Opening}
use Rattle.run_report.specs.declared.openings.Openings.{Openings}

-- the end that is told, or else this one
abbrev pub told_or : Option WorkerEnd → WorkerEnd → WorkerEnd
told_or None end = end
told_or (Some told) end = told

-- these ends, where each that is told stands in the place of the other
abbrev pub with_told : List (Option WorkerEnd) → List WorkerEnd → List WorkerEnd
with_told [] ends = ends
with_told (told ∷ more) [] = []
with_told (told ∷ more) (end ∷ ends) = told_or told end ∷ with_told more ends

module _ {F S : Type 0} (shelf : F → ShelfState) (source : S → SourceState) where
  -- The file of that name, which holds this content, was opened, and its end is not known yet; or it could not be
  -- opened, and this is its end, which has its cause.
  abbrev pub IsOpening : Option (List ℕ) → List ℕ → F → F → Given S → Option WorkerEnd → Type 0
  IsOpening content name before after (Opened opened) None =
      IsUnpulled content name (source opened) × (shelf after ≡ shelf before)
  IsOpening content name before after (Opened opened) (Some end) = ⊥
  IsOpening content name before after Missing None = ⊥
  IsOpening content name before after Missing (Some end) =
      (end.end ≡ NotOpened) × IsFailedOpening source content name (shelf before) (shelf after) end

  module _ (holds : List ℕ → Option (List ℕ)) where
    -- the files of these names were opened in order, each between two states of the shelf
    abbrev pub AreOpenings : List (List ℕ) → F → F → List (Opening S) → Type 0
    AreOpenings [] before after [] = after ≡ before
    AreOpenings [] before after (opening ∷ openings) = ⊥
    AreOpenings (name ∷ names) before after [] = ⊥
    AreOpenings (name ∷ names) before after (opening ∷ openings) =
        (between : F)
        × (IsOpening (holds name) name before between opening.file opening.end
        × AreOpenings names between after openings)

    -- the files of these names were opened in order, and this is what came of each
    pub record AreOpened (names : List (List ℕ)) (before after : F) (openings : Openings S) : Type 0 where
      pub all : List (Opening S)
      pub are_openings : AreOpenings names before after all
      pub files : openings.files.items ≡ map (λ opening. opening.file) all
      pub ends : openings.ends.items ≡ map (λ opening. opening.end) all
