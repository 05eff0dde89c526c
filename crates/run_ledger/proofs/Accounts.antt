-- The report of a run, whose parties account for what they did, is its ledger.
use Rattle.std.proofs.Common.{◌≡◌, ◌==◌, ◌+◌, ◌<◌, ◌≤◌, ℕ, zero, suc, List, [], ◌∷◌, ◌++◌, map, length, refl, ap, sym, ◌∙◌, subst, arith}
use Rattle.std.specs.Prelude.{AllPairs}
use Rattle.std.specs.List.{AllByRecursion, flat_map}
use Rattle.std.proofs.lemmas.List.{length-map, length-append, map-append}
use Rattle.stat_defs.specs.declared.events.Event.{Event}
use Rattle.stat_defs.specs.declared.ids.Kind.TheVariants.{Counter}
use Rattle.stat_defs.specs.declared.reports.FlushRecord.{FlushRecord}
use Rattle.stat_defs.specs.declared.reports.ReadRecord.{ReadRecord}
use Rattle.stat_defs.specs.declared.reports.Report.{Report}
use Rattle.book_state.specs.Follows.{Follows}
use Rattle.book_state.specs.Log.{replay, Legal}
use Rattle.ledger.specs.Flushes.{ids_made, flushed, FitAll}
use Rattle.ledger.specs.Gauges.{GaugeFits}
use Rattle.ledger.specs.Ledger.{RunPlan, HasHistory, AreSwept, Account, AreShown, IsReportOf}
use Rattle.ledger.specs.Lists.{EachNumbered, OfLast}
use Rattle.ledger.specs.Segments.{segments}
use Rattle.ledger.specs.Readings.{ReadingFits, NoneFalls}
use Rattle.ledger.specs.Work.{Work, events_in, verdicts_in, recordings, units_of}
use Rattle.run_ledger.specs.Told.{RunTold, WorkerTold, FlushTold, ReadTold, all_flushes, values_in, halves_of, words_read, words_loaded}
use Rattle.run_ledger.specs.Accounts.{StoreAccounts, WorkerAccounts, FollowsEvents, FlushAccounts}
use Rattle.run_ledger.specs.Laws.{RunsAccount}
use Rattle.run_ledger.proofs.Counts.{MadeAdds, all_adds, value_is}
use Rattle.ledger.proofs.Members.{each_both, each_as, each_of, each_last, each_mapped, all_as, of_last}
use Rattle.run_ledger.proofs.Flushes as flushes
use Rattle.run_ledger.proofs.Halves.{HasParts, segments_all}
use Rattle.run_ledger.proofs.History.{NoneEnds, all_follow, all_sweeps, none_ends}
use Rattle.run_ledger.proofs.Readings as readings
use Rattle.run_ledger.proofs.Words.{MadeMoves, word_fits}

module _ (plan : RunPlan) (events : List (List Event)) (told : RunTold) (report : Report) (is : StoreAccounts plan events told report)
    (follow : EachNumbered (FollowsEvents plan.rules (length told.workers)) 1 told.workers) where
  abbrev works : List Work
  works = map (λ (worker : WorkerTold). worker.work) told.workers

  abbrev shown : List FlushRecord
  shown = map (λ (flush : FlushTold). flush.shown) (all_flushes told)

  abbrev number : ℕ
  number = length told.workers

  same_number : length works ≡ number
  same_number = length-map told.workers (λ (worker : WorkerTold). worker.work)

  last_is : (k : ℕ) × FlushAccounts plan.rules number report.log (suc k == length (all_flushes told)) told.last
  last_is = each_last (λ k flush. FlushAccounts plan.rules number report.log (suc k == length (all_flushes told)) flush) 0 told.flushes told.last is.each_flush

  history : HasHistory plan works report
  history = record {
    legal = subst (λ (n : ℕ). Legal plan.rules plan.scopes n report.log) (sym same_number) is.log_is.legal;
    follows = subst (λ (n : ℕ). EachNumbered (λ w work. Follows plan.rules n w (events_in work) (verdicts_in work) report.log) 1 works) (sym same_number)
        (all_follow plan.rules number told.last.found told.last.sweep report.log is.log_is.last_sweep last_is.1.sweep.1 told.workers is.each_worker follow);
  }

  flush_count : length shown ≡ plan.flushes + 1
  flush_count =
      let one = length-map (all_flushes told) (λ (flush : FlushTold). flush.shown) in
      let two = length-append told.flushes (told.last ∷ []) in
      let three = is.told_is.flush_number in
      omega (arith, one, two, three)

  swept : AreSwept plan report
  swept = record {
    number = ap length is.told_is.flushes ∙ flush_count;
    sweeps = all_sweeps plan number report.log (all_flushes told) is.log_is.legal is.log_is.sweeps
        ∙ sym (length-map (all_flushes told) (λ (flush : FlushTold). flush.shown)) ∙ sym (ap length is.told_is.flushes);
    rising = is.log_is.flushes_rise;
    ended = subst (λ (l : List FlushRecord). OfLast (NoneEnds report.log) l) (sym is.told_is.flushes)
        (none_ends report.log told.flushes told.last is.log_is.last_sweep last_is.1.at last_is.1.sweep.0);
  }

  -- all values of a worker are in the halves that were taken of it
  taken : EachNumbered (λ w worker. values_in (halves_of w (all_flushes told)) ≡ recordings worker.work) 1 told.workers
  taken = each_as _ (λ w worker. values_in (halves_of w (all_flushes told)) ≡ recordings worker.work) 1 told.workers
      (λ w worker above both. ap values_in both.0 ∙ both.1.did.values)
      (each_both (λ w worker. halves_of w (all_flushes told) ≡ worker.turned ++ worker.active ∷ []) (WorkerAccounts told.last.found) 1 told.workers is.halves is.each_worker)

  parts_of : AllByRecursion HasParts (all_flushes told)
  parts_of = each_of (λ k flush. FlushAccounts plan.rules number report.log (suc k == length (all_flushes told)) flush) HasParts 0 (all_flushes told) (λ k flush a. a.parts) is.each_flush

  adds : AllByRecursion MadeAdds told.workers
  adds = each_of (WorkerAccounts told.last.found) MadeAdds 1 told.workers (λ w worker a. a.did.adds) is.each_worker

  moves : AllByRecursion MadeMoves told.workers
  moves = each_of (WorkerAccounts told.last.found) MadeMoves 1 told.workers (λ w worker a. a.did.moves) is.each_worker

  abbrev Fit : FlushRecord → Type 0
  Fit last = AllByRecursion (λ reading. GaugeFits reading.id.0 reading.word works) last.gauges

  account : Account plan works report
  account = record {
    flushes = subst (λ (l : List FlushRecord). FitAll plan.rules report.log works l) (sym is.told_is.flushes)
        (flushes.all_fit plan.rules number report.log told.workers (all_flushes told) refl is.each_flush taken);
    units = subst (λ (n : ℕ). AllByRecursion (λ id. flushed id.0 report.flushes ≡ units_of id.0 works) (ids_made Counter (replay plan.rules n report.log))) (sym same_number)
        (all_as _ (λ id. flushed id.0 report.flushes ≡ units_of id.0 works) (ids_made Counter (replay plan.rules number report.log))
        (λ id all. sym (is.counters.latched id.0) ∙ all ∙ all_adds id.0 told.workers adds) is.counters.all_latched);
    values = subst (λ (l : List FlushRecord). EachNumbered (λ w work. flat_map (λ segment. segment) (segments w work l) ≡ recordings work) 1 works) (sym is.told_is.flushes)
        (each_mapped (λ (worker : WorkerTold). worker.work) (λ w work. flat_map (λ segment. segment) (segments w work shown) ≡ recordings work) 1 told.workers
        (each_as _ (λ w worker. flat_map (λ segment. segment) (segments w worker.work shown) ≡ recordings worker.work) 1 told.workers (λ w worker above all. whole w worker above all) taken));
    words = subst (λ (l : List FlushRecord). OfLast Fit l) (sym is.told_is.flushes)
        (subst (λ (l : List FlushRecord). OfLast Fit l) (sym (map-append (λ (flush : FlushTold). flush.shown) told.flushes (told.last ∷ [])))
        (of_last Fit (map (λ (flush : FlushTold). flush.shown) told.flushes) told.last.shown
        (all_as _ (λ reading. GaugeFits reading.id.0 reading.word works) told.last.shown.gauges (λ reading left. word_fits reading.id.0 reading.word told.workers moves left) is.words)));
  } where
    whole : (w : ℕ) (worker : WorkerTold) → 1 ≤ w → values_in (halves_of w (all_flushes told)) ≡ recordings worker.work
        → flat_map (λ segment. segment) (segments w worker.work shown) ≡ recordings worker.work
    whole zero worker above all = absurd (omega (arith, above))
    whole (suc at) worker above all = segments_all (all_flushes told) parts_of at worker all

  read_words : (id : ℕ) → id < length (replay plan.rules number report.log).metrics → readings.Climbs (words_read id told.reads) × readings.UpTo (units_of id works) (words_read id told.reads)
  read_words id below =
      let end = is.counters.counted id below in
      let value = value_is id told.workers told.flusher told.reader end.value end.pending adds end.end in
      let loads = readings.loads_climb id end.value told.reader end.rises in
      subst (λ (l : List ℕ). readings.Climbs l × readings.UpTo (units_of id works) l) (is.counters.loaded id)
      (loads.0, subst (λ (n : ℕ). readings.UpTo n (words_loaded id told.reader)) value loads.1)

  read_shown : AreShown plan works report
  read_shown = record {
    number = ap length is.told_is.reads ∙ length-map told.reads (λ (read : ReadTold). read.shown) ∙ is.told_is.read_number;
    never_falls = is.log_is.reads_rise;
    each = subst (λ (l : List ReadRecord). AllByRecursion (ReadingFits plan.rules report.log works) l) (sym is.told_is.reads)
        (readings.all_fit plan.rules number report.log works told.reads same_number is.each_read (λ id below. (read_words id below).1));
    rising = subst (λ (l : List ReadRecord). AllPairs NoneFalls l) (sym is.told_is.reads)
        (readings.none_falls (length (replay plan.rules number report.log).metrics) told.reads (readings.all_below plan.rules number report.log told.reads is.each_read) (λ id below. (read_words id below).0));
  }

pub run_accounts : RunsAccount
run_accounts contents events plan told report read is =
    let parties = is.parties in let follow = is.follow in
    subst (λ (workers : List Work). IsReportOf contents events plan workers report) parties.told_is.works
    (record {
      read = read;
      history = history plan events told report parties follow;
      swept = swept plan events told report parties follow;
      account = account plan events told report parties follow;
      shown = read_shown plan events told report parties follow;
    })
