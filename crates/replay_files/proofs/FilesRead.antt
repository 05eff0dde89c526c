-- Files that were read one after another.
use Rattle.std.proofs.Common.{◌≡◌, ◌≤◌, ◌+◌, ℕ, Option, Result, Ok, Err, IfOk, List, [], ◌∷◌, ◌++◌, length, map, take, get_or, refl, sym, ap, ◌∙◌, subst, arith, length-append, add-one}
use Rattle.std.proofs.lemmas.List.{append-nil, map-append}
use Rattle.std.proofs.lemmas.Grind.{flat_map-append}
use Rattle.std.proofs.Math.Seq.{take-suc}
use Rattle.stat_defs.specs.declared.events.Event.{Event}
use Rattle.stat_defs.specs.declared.history.Verdict.{Verdict}
use Rattle.stat_defs.specs.declared.memory.NoMemory.{NoMemory}
use Rattle.stat_defs.specs.declared.reports.FileEnd.TheVariants.{NotOpened}
use Rattle.stat_defs.specs.declared.reports.WorkerEnd.{WorkerEnd}
use Rattle.stats_io.specs.States.{SourceState, ShelfState}
use Rattle.stats_io.specs.Open.{IsUnpulled}
use Rattle.event_script.specs.FileEvents.{AreEventsOf}
use Rattle.plain_store.specs.Store.{StoreHistory}
use Rattle.file_reading.specs.WorkerEnd.{HasCause}
use Rattle.file_reading.specs.FileRead.{FileRead, all_events, IsFile, AreFiles}
use Rattle.replay_files.specs.Applying.{AreApplied}
use Rattle.file_reading.proofs.FileOpened.{file_read, file_unopened}
use Rattle.replay_files.specs.FileRun.{all_verdicts, IsSourceRun, IsFileRun, AreRuns}
use Rattle.file_reading.specs.declared.reading.FileRun.{FileRun}
use Rattle.replay_files.specs.declared.reading.Runs.{Runs}
use Rattle.replay_files.proofs.AppliedEvents.{none_applied, both_applied}

-- one name more of those in front
pub front_push : {X : Type 0} (f : X → List ℕ) (xs : List X) (i : ℕ) (x : X) → i + 1 ≤ length xs → x ≡ get_or xs i x
    → map f (take (i + 1) xs) ≡ map f (take i xs) ++ f x ∷ []
front_push f xs i x within is =
    ap (map f) (rw add-one (take-suc xs i x (omega (arith, within)))) ∙ map-append f (take i xs) (get_or xs i x ∷ [])
    ∙ ap (λ y. map f (take i xs) ++ f y ∷ []) (sym is)

module _ {F S : Type 0} (shelf : F → ShelfState) (source : S → SourceState) where
  module _ (holds : List ℕ → Option (List ℕ)) where
    pub file_opened_read : (name : List ℕ) (before after : F) (opened : S) (earlier later : StoreHistory)
        → IsUnpulled (holds name) name (source opened) → shelf after ≡ shelf before
        → (read : Result FileRun NoMemory) → IfOk read (IsSourceRun source opened earlier later)
        → IfOk read (IsFileRun shelf source holds name before after earlier later)
    file_opened_read name before after opened earlier later is same (Ok run) read = record {
      events = read.events;
      file = file_read source shelf holds name before after opened read.events run.end is same read.read;
      are_applied = read.are_applied;
      few = read.read.few;
    }
    file_opened_read name before after opened earlier later is same (Err fault) read = tt

    -- a file that could not be opened
    pub file_not_opened : (name : List ℕ) (before after : F) (store : StoreHistory) (run : FileRun)
        → run.verdicts.items ≡ [] → run.end.end ≡ NotOpened
        → HasCause source (holds name) name (shelf before) (shelf after) run.end NotOpened
        → IsFileRun shelf source holds name before after store store run
    file_not_opened name before after store run none is cause = record {
      events = [];
      file = file_unopened source shelf holds name before after run.end is cause;
      are_applied = subst (λ (vs : List Verdict). AreApplied store [] vs store) (sym none) (none_applied store);
      few = omega arith;
    }

    -- one file more
    files_push : (names : List (List ℕ)) (name : List ℕ) (before between after : F) (files : List FileRead)
        (file : FileRead) → AreFiles shelf source holds names before between files
        → IsFile shelf source holds name between after file
        → AreFiles shelf source holds (names ++ name ∷ []) before after (files ++ file ∷ [])
    files_push [] name before between after [] file are is =
        (after, (subst (λ (b : F). IsFile shelf source holds name b after file) are is, refl))
    files_push [] name before between after (f ∷ fs) file are is = absurd are
    files_push (n ∷ ns) name before between after [] file are is = absurd are
    files_push (n ∷ ns) name before between after (f ∷ fs) file are is =
        (are.0, (are.1.0, files_push ns name are.0 between after fs file are.1.1 is))

    pub no_files : (before : F) (earlier : StoreHistory) (runs : Runs) → runs.verdicts.items ≡ []
        → runs.ends.items ≡ [] → AreRuns shelf source holds [] before before earlier earlier runs
    no_files before earlier runs no_verdicts no_ends = record {
      files = [];
      are_files = refl;
      are_applied = subst (λ (vss : List (List Verdict)). AreApplied earlier [] (all_verdicts vss) earlier)
          (sym no_verdicts) (none_applied earlier);
      a_verdict_each = ap (λ (vss : List (List Verdict)). map length vss) no_verdicts;
      ends_are = no_ends;
      few = omega arith;
    }

    pub one_file_more : (names : List (List ℕ)) (name : List ℕ) (before between after : F)
        (earlier later latest : StoreHistory) (runs more : Runs) (run : FileRun)
        → AreRuns shelf source holds names before between earlier later runs
        → IsFileRun shelf source holds name between after later latest run
        → more.verdicts.items ≡ runs.verdicts.items ++ run.verdicts.items ∷ []
        → more.ends.items ≡ runs.ends.items ++ run.end ∷ []
        → AreRuns shelf source holds (names ++ name ∷ []) before after earlier latest more
    one_file_more names name before between after earlier later latest runs more run so read more_verdicts more_ends =
        let file : FileRead = record { events = read.events; end = run.end } in
        let given : List Verdict = run.verdicts.items in
        let told : List (List Verdict) = runs.verdicts.items in
        let events : all_events (so.files ++ file ∷ []) ≡ all_events so.files ++ read.events =
        flat_map-append (λ (f : FileRead). f.events) so.files (file ∷ [])
        ∙ ap (λ (es : List Event). all_events so.files ++ es) (append-nil read.events) in
        let verdicts : all_verdicts more.verdicts.items ≡ all_verdicts told ++ given =
        ap (λ (vss : List (List Verdict)). all_verdicts vss) more_verdicts
        ∙ flat_map-append (λ (vs : List Verdict). vs) told (given ∷ [])
        ∙ ap (λ (vs : List Verdict). all_verdicts told ++ vs) (append-nil given) in
        let applied = both_applied earlier later latest (all_events so.files) read.events (all_verdicts told) given
        so.are_applied read.are_applied in
        record {
          files = so.files ++ (file ∷ []);
          are_files = files_push names name before between after so.files file so.are_files read.file;
          are_applied = subst (λ (es : List Event). AreApplied earlier es (all_verdicts more.verdicts.items) latest)
              (sym events)
              (subst (λ (vs : List Verdict). AreApplied earlier (all_events so.files ++ read.events) vs latest)
              (sym verdicts) applied);
          a_verdict_each = verdicts_each told given so.files file more.verdicts.items more_verdicts so.a_verdict_each
              read.are_applied.a_verdict_each;
          ends_are = more_ends ∙ ap (λ (es : List WorkerEnd). es ++ run.end ∷ []) so.ends_are
              ∙ sym (map-append (λ (f : FileRead). f.end) so.files (file ∷ []));
          few = omega (
            arith,
            so.few,
            read.few,
            ap length events,
            length-append (all_events so.files) read.events,
            length-append names (name ∷ []),
          );
        }
      where
        verdicts_each : (told : List (List Verdict)) (given : List Verdict) (files : List FileRead) (file : FileRead)
            (all : List (List Verdict)) → all ≡ told ++ given ∷ []
            → map length told ≡ map length (map (λ (f : FileRead). f.events) files) → length given ≡ length file.events
            → map length all ≡ map length (map (λ (f : FileRead). f.events) (files ++ file ∷ []))
        verdicts_each told given files file all is before this =
            let events : List (List Event) = map (λ (f : FileRead). f.events) files in
            ap (λ (vss : List (List Verdict)). map length vss) is ∙ map-append length told (given ∷ [])
            ∙ (λ i. before i ++ this i ∷ []) ∙ sym (map-append length events (file.events ∷ []))
            ∙ ap (λ (ess : List (List Event)). map length ess)
            (sym (map-append (λ (f : FileRead). f.events) files (file ∷ [])))

  -- a file is the same where what its name holds is the same
  pub same_content : (one other : List ℕ → Option (List ℕ)) (name : List ℕ) (before after : F)
      (earlier later : StoreHistory) (run : FileRun) → one name ≡ other name
      → IsFileRun shelf source one name before after earlier later run
      → IsFileRun shelf source other name before after earlier later run
  same_content one other name before after earlier later run same read = record {
    events = read.events;
    file = record {
      run = subst (λ (c : Option (List ℕ)). AreEventsOf c run.end.end run.end.taken read.events) same read.file.run;
      cause = subst
          (λ (c : Option (List ℕ)). HasCause source c name (shelf before) (shelf after) run.end run.end.end) same
          read.file.cause;
    };
    are_applied = read.are_applied;
    few = read.few;
  }
