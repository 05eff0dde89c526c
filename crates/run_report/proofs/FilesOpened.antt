-- Files that were opened one after another.
use Rattle.std.proofs.Common.{◌≡◌, ℕ, suc, Option, List, [], ◌∷◌, ◌++◌, length, refl, sym, ap, ◌∙◌, subst}
use Rattle.std.proofs.lemmas.List.{map-append, length-map}
use Rattle.stat_defs.specs.declared.reports.WorkerEnd.{WorkerEnd}
use Rattle.stats_io.specs.States.{SourceState, ShelfState}
use Rattle.worker_run.specs.declared.given.Given.{Given}
use Rattle.run_report.specs.Opened.{IsOpening, AreOpenings, AreOpened}
use Rattle.run_report.specs.declared.openings.Opening.{Opening}
use Rattle.run_report.specs.declared.openings.Openings.{Openings}

module _ {F S : Type 0} (shelf : F → ShelfState) (source : S → SourceState) (holds : List ℕ → Option (List ℕ)) where
  -- one opening more
  openings_push : (names : List (List ℕ)) (name : List ℕ) (before between after : F) (all : List (Opening S))
      (opening : Opening S) → AreOpenings shelf source holds names before between all
      → IsOpening shelf source (holds name) name between after opening.file opening.end
      → AreOpenings shelf source holds (names ++ name ∷ []) before after (all ++ opening ∷ [])
  openings_push [] name before between after [] opening are is = (
    after,
    (subst (λ (b : F). IsOpening shelf source (holds name) name b after opening.file opening.end) are is, refl),
  )
  openings_push [] name before between after (o ∷ all) opening are is = absurd are
  openings_push (n ∷ ns) name before between after [] opening are is = absurd are
  openings_push (n ∷ ns) name before between after (o ∷ all) opening are is =
      (are.0, (are.1.0, openings_push ns name are.0 between after all opening are.1.1 is))

  -- before the first file none is opened
  pub none_opened : (before : F) (openings : Openings S) → openings.files.items ≡ [] → openings.ends.items ≡ []
      → AreOpened shelf source holds [] before before openings
  none_opened before openings no_files no_ends =
      record { all = []; are_openings = refl; files = no_files; ends = no_ends }

  -- one file more
  pub one_opened_more : (names : List (List ℕ)) (name : List ℕ) (before between after : F) (openings more : Openings S)
      (opening : Opening S) → AreOpened shelf source holds names before between openings
      → IsOpening shelf source (holds name) name between after opening.file opening.end
      → more.files.items ≡ openings.files.items ++ opening.file ∷ []
      → more.ends.items ≡ openings.ends.items ++ opening.end ∷ []
      → AreOpened shelf source holds (names ++ name ∷ []) before after more
  one_opened_more names name before between after openings more opening so is more_files more_ends = record {
    all = so.all ++ opening ∷ [];
    are_openings = openings_push names name before between after so.all opening so.are_openings is;
    files = more_files ∙ ap (λ (files : List (Given S)). files ++ opening.file ∷ []) so.files
        ∙ sym (map-append (λ (o : Opening S). o.file) so.all (opening ∷ []));
    ends = more_ends ∙ ap (λ (ends : List (Option WorkerEnd)). ends ++ opening.end ∷ []) so.ends
        ∙ sym (map-append (λ (o : Opening S). o.end) so.all (opening ∷ []));
  }

  -- each name has an opening
  an_opening_each : (names : List (List ℕ)) (before after : F) (all : List (Opening S))
      → AreOpenings shelf source holds names before after all → length all ≡ length names
  an_opening_each [] before after [] are = refl
  an_opening_each [] before after (o ∷ all) are = absurd are
  an_opening_each (n ∷ ns) before after [] are = absurd are
  an_opening_each (n ∷ ns) before after (o ∷ all) are = ap suc (an_opening_each ns are.0 after all are.1.1)

  -- and so a file
  pub a_file_each : (names : List (List ℕ)) (before after : F) (openings : Openings S)
      → AreOpened shelf source holds names before after openings → length openings.files.items ≡ length names
  a_file_each names before after openings so =
      ap (λ (files : List (Given S)). length files) so.files ∙ length-map so.all (λ (o : Opening S). o.file)
      ∙ an_opening_each names before after so.all so.are_openings
