-- The report of a run whose store came to its end.
use Rattle.std.proofs.Common.{◌≡◌, ℕ, suc, List, [], ◌∷◌, ◌++◌, map, length, refl, sym, ap, ◌∙◌, subst}
use Rattle.std.specs.List.{AllZip, zip}
use Rattle.std.proofs.lemmas.List.{map-append}
use Rattle.std.proofs.lemmas.Simd.{map-map}
use Rattle.stat_defs.specs.declared.configs.Config.{Config}
use Rattle.stat_defs.specs.declared.events.Event.{Event}
use Rattle.stat_defs.specs.declared.reports.FlushRecord.{FlushRecord}
use Rattle.stat_defs.specs.declared.reports.LastFlush.{LastFlush}
use Rattle.stat_defs.specs.declared.reports.ReadRecord.{ReadRecord}
use Rattle.stat_defs.specs.declared.reports.Report.{Report}
use Rattle.stat_defs.specs.declared.reports.WorkerEnd.{WorkerEnd}
use Rattle.stats_io.specs.States.{SourceState}
use Rattle.locked_book.specs.Sharing.{first_of}
use Rattle.ledger.specs.Ledger.{RunPlan, RunLedger, plan_of}
use Rattle.ledger.specs.Lists.{EachNumbered}
use Rattle.ledger.proofs.ScopeEntries.{scopes_once}
use Rattle.ledger.specs.Work.{events_in, verdicts_in}
use Rattle.run_ledger.specs.Told.{RunTold, FlushTold, ReadTold}
use Rattle.run_ledger.specs.Accounts.{StoreAccounts, RunAccounts, FollowsEvents}
use Rattle.run_ledger.proofs.Accounts.{run_accounts}
use Rattle.store_parts.specs.declared.store.Store.{Store}
use Rattle.recorder.specs.Ending.{told_at_end}
use Rattle.admin_side.specs.Reader.{NamedRead, ReaderKnown}
use Rattle.admin_side.specs.Telling.{told_at}
use Rattle.flusher.specs.Flusher.{FlusherKnown}
use Rattle.store_closing.specs.Closes.{Closes, told_of, plan_told, events_told, report_told}
use Rattle.worker_run.specs.declared.given.Given.{Given}
use Rattle.worker_run.specs.declared.given.Worked.{Worked}
use Rattle.worker_run.specs.Working.{IsFileRead}
use Rattle.run_files.specs.Run.{IsRunOfGiven, content_of}
use Rattle.run_files.proofs.WorkersDone.{events_by, verdicts_by, AreWorked, are_read, files_read, verdicts_told, follow_all}

-- the accounts of a run say nothing of the files' ends
with_ends : (plan : RunPlan) (events : List (List Event)) (told : RunTold) (report : Report) (ends : List WorkerEnd)
    → StoreAccounts plan events told report → StoreAccounts plan events told (record report { ends = ends })
with_ends plan events told report ends a = record {
  told_is = record {
    works = a.told_is.works;
    flushes = a.told_is.flushes;
    reads = a.told_is.reads;
    flush_number = a.told_is.flush_number;
    read_number = a.told_is.read_number;
  };
  log_is = record {
    legal = a.log_is.legal;
    last_sweep = a.log_is.last_sweep;
    sweeps = a.log_is.sweeps;
    flushes_rise = a.log_is.flushes_rise;
    reads_rise = a.log_is.reads_rise;
  };
  each_worker = a.each_worker;
  each_flush = a.each_flush;
  each_read = a.each_read;
  halves = a.halves;
  counters = record {
    latched = a.counters.latched;
    loaded = a.counters.loaded;
    counted = a.counters.counted;
    all_latched = a.counters.all_latched;
  };
  words = a.words;
}

-- what the workers' recorders tell once more
told_events : (workers : List Worked)
    → map (λ told. events_in told.work) (map told_at_end (map (λ x. x.ended) workers)) ≡ map events_by workers
told_events [] = refl
told_events (x ∷ xs) = λ i. (events_by x ∷ told_events xs i)

told_verdicts : (workers : List Worked)
    → map (λ told. verdicts_in told.work) (map told_at_end (map (λ x. x.ended) workers)) ≡ map verdicts_by workers
told_verdicts [] = refl
told_verdicts (x ∷ xs) = λ i. (verdicts_by x ∷ told_verdicts xs i)

shown_count : {X Y : Type 0} (f : X → Y) (xs : List X) (ys : List Y) (n : ℕ) → ys ≡ map f xs → length ys ≡ n
    → length xs ≡ n
shown_count f xs ys n is count = sym (mapped xs) ∙ (sym (ap length is) ∙ count) where
  mapped : (xs : List _) → length (map f xs) ≡ length xs
  mapped [] = refl
  mapped (x ∷ xs) = ap (λ (k : ℕ). suc k) (mapped xs)

module _ {S : Type 0} (state : S → SourceState) (config : Config) (store : Store) (files : List (Given S))
    (workers : List Worked) (flushes : List FlushRecord) (flusher : FlusherKnown) (reads : List ReadRecord)
    (reader : ReaderKnown) (last : LastFlush) (report : Report)
    (configured : (first_of store.book).config ≡ config)
    (worked : AreWorked state store 1 files workers)
    (flushed : flushes ≡ map (λ (flush : FlushTold). flush.shown) flusher.flushes)
    (flush_count : length flushes ≡ config.flushes)
    (read : reads ≡ map (λ (reading : NamedRead). reading.shown) reader.reads)
    (read_count : length reads ≡ config.reads)
    (closes : Closes store (map (λ x. x.ended) workers) flusher reader last)
    (is : report ≡ record {
      verdicts = map (λ x. x.verdicts.items) workers;
      flushes = flushes ++ last.last ∷ [];
      log = last.log;
      reads = reads;
      ends = map (λ x. x.end) workers;
    }) where
  abbrev told : RunTold
  told = told_of (map (λ x. x.ended) workers) flusher reader closes.flush

  told_read : reads ≡ map (λ (reading : ReadTold). reading.shown) told.reads
  told_read = read ∙ sym (map-map (λ (reading : ReadTold). reading.shown) (told_at (closes.flush.found ++ closes.flush.sweep ∷ [])) reader.reads)

  all_flushed : flushes ++ last.last ∷ [] ≡ map (λ flush. flush.shown) (flusher.flushes ++ closes.flush ∷ [])
  all_flushed =
      ap (λ (l : List FlushRecord). l ++ last.last ∷ []) flushed
      ∙ (ap (λ (r : FlushRecord). map (λ (flush : FlushTold). flush.shown) flusher.flushes ++ r ∷ []) (sym closes.shown)
      ∙ sym (map-append (λ (flush : FlushTold). flush.shown) flusher.flushes (closes.flush ∷ [])))

  reported : report ≡ record (report_told told last.log) { ends = map (λ x. x.end) workers }
  reported = is ∙ (λ i. record {
    verdicts = (verdicts_told state store 1 files workers worked ∙ sym (told_verdicts workers)) i;
    flushes = all_flushed i;
    log = last.log;
    reads = told_read i;
    ends = map (λ x. x.end) workers;
  })

  planned : plan_told (first_of store.book).config told ≡ plan_of config
  planned = ap (λ (c : Config). plan_told c told) configured ∙ (λ i. record (plan_of config) {
    flushes =
        shown_count (λ (flush : FlushTold). flush.shown) flusher.flushes flushes config.flushes flushed flush_count i;
    reads = shown_count (λ (reading : ReadTold). reading.shown) told.reads reads config.reads told_read read_count i;
  })

  accounted : StoreAccounts (plan_of config) (map events_by workers) told report
  accounted =
      subst (λ (r : Report). StoreAccounts (plan_of config) (map events_by workers) told r) (sym reported)
      (subst (λ (es : List (List Event)). StoreAccounts (plan_of config) es told
      (record (report_told told last.log) { ends = map (λ x. x.end) workers })) (told_events workers)
      (subst (λ (p : RunPlan). StoreAccounts p (events_told told) told
      (record (report_told told last.log) { ends = map (λ x. x.end) workers })) planned
      (with_ends (plan_told (first_of store.book).config told) (events_told told) told (report_told told last.log)
      (map (λ x. x.end) workers) closes.accounts)))

  -- no event of theirs was refused
  each_follows : EachNumbered (FollowsEvents (plan_of config).rules (length told.workers)) 1 told.workers
  each_follows =
      subst (λ (p : RunPlan). EachNumbered (FollowsEvents p.rules (length told.workers)) 1 told.workers) planned
      (follow_all state store 1 files workers (FollowsEvents (plan_told (first_of store.book).config told).rules
      (length told.workers)) worked closes.follow)

  -- the run of these files
  pub run_made : IsRunOfGiven state config files report
  run_made =
      let verdicts = ap (λ (r : Report). r.verdicts) is ∙ verdicts_told state store 1 files workers worked in
      let ends = ap (λ (r : Report). r.ends) is in
      let contents = map (content_of state) files in
      let ledger : RunLedger contents (map events_by workers) (plan_of config) report =
      run_accounts contents (map events_by workers) (plan_of config) told report
      (are_read state store 1 files workers report worked verdicts ends)
      (record { parties = accounted; follow = each_follows }) in
      record {
        events = map events_by workers;
        read = subst (λ (es : List WorkerEnd).
            AllZip (λ file told. IsFileRead state file told.1 told.0) files (zip es (map events_by workers))) (sym ends)
            (files_read state store 1 files workers worked);
        ledger = ledger;
        scopes = scopes_once contents (map events_by workers) (plan_of config) report ledger;
      }
