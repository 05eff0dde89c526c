-- Files that were opened, and then read side by side, have the report of their events.
use Rattle.std.proofs.Common.{◌≡◌, ℕ, Option, None, Some, List, [], ◌∷◌, map, length, refl, ap, sym, ◌∙◌, subst, arith}
use Rattle.std.specs.List.{zip, AllZip}
use Rattle.std.proofs.lemmas.List.{length-map}
use Rattle.stat_defs.specs.declared.configs.Config.{Config}
use Rattle.stat_defs.specs.declared.events.Event.{Event}
use Rattle.stat_defs.specs.declared.history.Verdict.{Verdict}
use Rattle.stat_defs.specs.declared.reports.Report.{Report}
use Rattle.stat_defs.specs.declared.reports.WorkerEnd.{WorkerEnd}
use Rattle.stats_io.specs.States.{SourceState, ShelfState}
use Rattle.ledger.specs.Ledger.{RunPlan, RunLedger, plan_of}
use Rattle.ledger.proofs.ScopeEntries.{scopes_once}
use Rattle.file_reading.specs.FileRead.{FileRead, IsFile, AreFiles}
use Rattle.file_reading.proofs.FileOpened.{file_read, file_unopened}
use Rattle.replay_files.proofs.FilesReported.{events_of, ends_of, runs_of, counted_of}
use Rattle.worker_run.specs.declared.given.Given.{Given}
use Rattle.worker_run.specs.declared.given.Given.TheVariants.{Opened, Missing}
use Rattle.run_files.specs.Run.{content_of, IsRunOfGiven}
use Rattle.worker_run.specs.Working.{IsFileRead}
use Rattle.run_report.specs.Opened.{told_or, with_told, IsOpening, AreOpenings, AreOpened}
use Rattle.run_report.specs.RunReport.{IsRunOf}
use Rattle.run_report.specs.declared.openings.Opening.{Opening}
use Rattle.run_report.specs.declared.openings.Openings.{Openings}
use Rattle.run_report.proofs.FilesOpened.{a_file_each}
use Rattle.run_report.proofs.ToldEnds.{as_many_told}

-- each of the files was read, with the events and the end at its place
abbrev AllRead : {S : Type 0} → (S → SourceState) → List (Given S) → List WorkerEnd → List (List Event) → Type 0
AllRead source files ends events = AllZip (λ file told. IsFileRead source file told.1 told.0) files (zip ends events)

-- files of these ends and events
files_of : List WorkerEnd → List (List Event) → List FileRead
files_of [] events = []
files_of (end ∷ ends) [] = []
files_of (end ∷ ends) (es ∷ events) = record { events = es; end = end } ∷ files_of ends events

-- they have these ends, where there are as many of both
ends_back : (ends : List WorkerEnd) (events : List (List Event)) → length ends ≡ length events
    → map (λ (file : FileRead). file.end) (files_of ends events) ≡ ends
unfolding files_of
ends_back [] events same = refl
ends_back (e ∷ es) [] same = absurd (omega (arith, same))
ends_back (e ∷ es) (v ∷ vs) same = ap (λ (l : List WorkerEnd). e ∷ l) (ends_back es vs (omega (arith, same)))

-- and these events
events_back : (ends : List WorkerEnd) (events : List (List Event)) → length ends ≡ length events
    → map (λ (file : FileRead). file.events) (files_of ends events) ≡ events
unfolding files_of
events_back [] [] same = refl
events_back [] (v ∷ vs) same = absurd (omega (arith, same))
events_back (e ∷ es) [] same = absurd (omega (arith, same))
events_back (e ∷ es) (v ∷ vs) same = ap (λ (l : List (List Event)). v ∷ l) (events_back es vs (omega (arith, same)))

module _ {F S : Type 0} (shelf : F → ShelfState) (source : S → SourceState) (holds : List ℕ → Option (List ℕ)) where
  -- what a worker read of a file is what the file's name holds
  file_run : (name : List ℕ) (before after : F) (file : Given S) (told : Option WorkerEnd) (end : WorkerEnd)
      (events : List Event) → IsOpening shelf source (holds name) name before after file told
      → IsFileRead source file events end
      → IsFile shelf source holds name before after (record { events = events; end = told_or told end })
  file_run name before after (Opened opened) None end events is read =
      file_read source shelf holds name before after opened events end is.0 is.1 read
  file_run name before after (Opened opened) (Some told) end events is read = absurd is
  file_run name before after Missing None end events is read = absurd is
  file_run name before after Missing (Some told) end events is read =
      subst (λ (es : List Event). IsFile shelf source holds name before after (record { events = es; end = told }))
      (sym read.0) (file_unopened source shelf holds name before after told is.0 is.1)

  -- files that were opened, and then read, are the files of their names
  files_run : (names : List (List ℕ)) (before after : F) (all : List (Opening S)) (ends : List WorkerEnd)
      (events : List (List Event)) → AreOpenings shelf source holds names before after all
      → AllRead source (map (λ (o : Opening S). o.file) all) ends events
      → AreFiles shelf source holds names before after
      (files_of (with_told (map (λ (o : Opening S). o.end) all) ends) events)
  unfolding files_of
  files_run [] before after [] [] events are read = are
  files_run [] before after [] (e ∷ es) [] are read = are
  files_run [] before after [] (e ∷ es) (v ∷ vs) are read = absurd read
  files_run [] before after (o ∷ all) ends events are read = absurd are
  files_run (n ∷ ns) before after [] ends events are read = absurd are
  files_run (n ∷ ns) before after (o ∷ all) [] events are read = absurd read
  files_run (n ∷ ns) before after (o ∷ all) (e ∷ es) [] are read = absurd read
  files_run (n ∷ ns) before after (o ∷ all) (e ∷ es) (v ∷ vs) are read = (
    are.0,
    (file_run n before are.0 o.file o.end e v are.1.0 read.0, files_run ns are.0 after all es vs are.1.1 read.1),
  )

  -- A ledger says nothing of contents and ends but what these files have, so it is also the ledger of them.
  ledger_of_files : (names : List (List ℕ)) (before after : F) (files : List FileRead)
      → AreFiles shelf source holds names before after files → length files ≡ length names
      → (contents : List (Option (List ℕ))) → length contents ≡ length names → (plan : RunPlan) (report : Report)
      → RunLedger contents (events_of files) plan report
      → RunLedger (map holds names) (events_of files) plan (record report { ends = ends_of files })
  ledger_of_files names before after files are a_file_each contents a_content_each plan report of =
      let as_many : length contents ≡ length (map holds names) = a_content_each ∙ sym (length-map names holds) in record {
        read = record {
          an_end_each = length-map files (λ (file : FileRead). file.end) ∙ a_file_each ∙ sym (length-map names holds);
          verdicts_each = of.read.verdicts_each ∙ as_many;
          a_verdict_each = of.read.a_verdict_each;
          read = runs_of shelf source holds names before after files are;
          counted = counted_of shelf source holds names before after files are;
        };
        history = record { legal = of.history.legal; follows = of.history.follows };
        swept = record {
          number = of.swept.number;
          sweeps = of.swept.sweeps;
          rising = of.swept.rising;
          ended = of.swept.ended;
        };
        account = record {
          flushes = of.account.flushes;
          units = of.account.units;
          values = of.account.values;
          words = of.account.words;
        };
        shown = record {
          number = of.shown.number;
          never_falls = of.shown.never_falls;
          each = of.shown.each;
          rising = of.shown.rising;
        };
      }

  -- the report of files that were opened and then run, once the ends are told of those that could not be opened
  is_run : (config : Config) (names : List (List ℕ)) (before after : F) (openings : Openings S)
      → AreOpened shelf source holds names before after openings
      → (events : List (List Event)) (contents : List (Option (List ℕ))) (report : Report)
      → length contents ≡ length openings.files.items
      → AllRead source openings.files.items report.ends events
      → RunLedger contents events (plan_of config) report
      → IsRunOf shelf source holds config names before after
      (record report { ends = with_told openings.ends.items report.ends })
  is_run config names before after openings so events contents report a_content_each read of =
      let told : List (Option WorkerEnd) = map (λ (o : Opening S). o.end) so.all in
      let ends : List WorkerEnd = with_told told report.ends in
      let files : List FileRead = files_of ends events in
      let opened : length openings.files.items ≡ length names =
      a_file_each shelf source holds names before after openings so in
      let events_each : length events ≡ length contents =
      sym (length-map events (λ (es : List Event). length es))
      ∙ sym (ap (λ (l : List ℕ). length l) of.read.a_verdict_each)
      ∙ length-map report.verdicts (λ (vs : List Verdict). length vs) ∙ of.read.verdicts_each in
      let same : length ends ≡ length events =
      as_many_told told report.ends ∙ of.read.an_end_each ∙ sym events_each in
      let ends_are : ends_of files ≡ ends = ends_back ends events same in
      let events_are : events_of files ≡ events = events_back ends events same in
      let are : AreFiles shelf source holds names before after files =
      files_run names before after so.all report.ends events so.are_openings
      (subst (λ (l : List (Given S)). AllRead source l report.ends events) so.files read) in
      let each_read : length files ≡ length names =
      sym (length-map files (λ (file : FileRead). file.events)) ∙ ap (λ (l : List (List Event)). length l) events_are
      ∙ events_each ∙ a_content_each ∙ opened in
      let of_files = ledger_of_files names before after files are each_read contents (a_content_each ∙ opened)
      (plan_of config) report
      (subst (λ (es : List (List Event)). RunLedger contents es (plan_of config) report) (sym events_are) of) in
      subst
      (λ (es : List WorkerEnd). IsRunOf shelf source holds config names before after (record report { ends = es }))
      (ends_are ∙ ap (λ (t : List (Option WorkerEnd)). with_told t report.ends) (sym so.ends)) (record {
        files = files;
        are_files = are;
        ends = refl;
        ledger = of_files;
        scopes = scopes_once (map holds names) (events_of files) (plan_of config) (record report { ends = ends_of files }) of_files;
      })

  -- so is any report that is the run's but for these ends
  pub reported : (config : Config) (names : List (List ℕ)) (before after : F) (openings : Openings S)
      → AreOpened shelf source holds names before after openings → (given : Report)
      → IsRunOfGiven source config openings.files.items given → (report : Report)
      → report ≡ record given { ends = with_told openings.ends.items given.ends }
      → IsRunOf shelf source holds config names before after report
  reported config names before after openings so given run report is =
      subst (λ (r : Report). IsRunOf shelf source holds config names before after r) (sym is)
      (is_run config names before after openings so run.events (map (content_of source) openings.files.items) given
      (length-map openings.files.items (content_of source)) run.read run.ledger)
