-- A shelf's count rises for each file that could not be opened.
use Rattle.std.proofs.Common.{◌≡◌, ◌≤◌, ◌+◌, ◌^◌, ◌-◌, ℕ, min, cond, Option, List, [], ◌∷◌, ap, arith}
use Rattle.std.proofs.lemmas.List.Sums.{sum_by-cons}
use Rattle.stat_defs.specs.declared.reports.FileEnd.{FileEnd}
use Rattle.stat_defs.specs.declared.reports.FileEnd.TheVariants.{Whole, BadLine, LineTooLong, TooBig, TooMany, ReadFault, NotOpened}
use Rattle.stat_defs.specs.declared.reports.WorkerEnd.{WorkerEnd}
use Rattle.stats_io.specs.States.{SourceState, ShelfState}
use Rattle.file_reading.specs.WorkerEnd.{HasCause}
use Rattle.file_reading.specs.FileRead.{FileRead, AreFiles, is_unopened, unopened}

module _ {F S : Type 0} (shelf : F → ShelfState) (source : S → SourceState) where
  module _ (content : Option (List ℕ)) (name : List ℕ) (before after : ShelfState) (worker : WorkerEnd) where
    steady : (n : ℕ) → after ≡ before → min (before.faults + 0) (2 ^ 64 - 1) ≤ after.faults
    steady n same = omega (arith, ap (λ (s : ShelfState). s.faults) same)

    -- the shelf's count over one file
    count_of_file : (end : FileEnd) → HasCause source content name before after worker end
        → min (before.faults + cond (is_unopened end) 1 0) (2 ^ 64 - 1) ≤ after.faults
    count_of_file Whole cause = steady 0 cause.opened.shelf
    count_of_file (BadLine n) cause = steady 0 cause.opened.shelf
    count_of_file (LineTooLong n) cause = steady 0 cause.opened.shelf
    count_of_file TooBig cause = steady 0 cause.opened.shelf
    count_of_file TooMany cause = steady 0 cause.opened.shelf
    count_of_file ReadFault cause = steady 0 cause.opened.shelf
    count_of_file NotOpened cause = cause.unopened.rose

  module _ (holds : List ℕ → Option (List ℕ)) where
    -- the shelf's count over all files
    pub count_of_files : (names : List (List ℕ)) (before after : F) (files : List FileRead) → AreFiles shelf source holds names before after files
        → min ((shelf before).faults + unopened files) (2 ^ 64 - 1) ≤ (shelf after).faults
    count_of_files [] before after [] are = omega (arith, ap (λ (f : F). (shelf f).faults) are)
    count_of_files [] before after (f ∷ fs) are = absurd are
    count_of_files (n ∷ ns) before after [] are = absurd are
    count_of_files (n ∷ ns) before after (f ∷ fs) are = omega (
      arith,
      count_of_file (holds n) n (shelf before) (shelf are.0) f.end f.end.end are.1.0.cause,
      count_of_files ns are.0 after fs are.1.1,
      sum_by-cons (λ (file : FileRead). cond (is_unopened file.end.end) 1 0) f fs,
    )
