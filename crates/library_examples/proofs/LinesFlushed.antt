-- Stores whose lines are applied, and which are flushed behind them.
use Rattle.std.proofs.Common.{◌≡◌, ℕ, ◌+◌, ◌≤◌, List, [], ◌∷◌, ◌++◌, length, length-append, refl, ap, sym, ◌∙◌, subst, arith}
use Rattle.stat_defs.specs.declared.history.Verdict.{Verdict}
use Rattle.stat_defs.specs.declared.reports.FileEnd.{FileEnd}
use Rattle.stat_defs.specs.declared.reports.FlushRecord.{FlushRecord}
use Rattle.stats_io.specs.States.{SourceState}
use Rattle.event_script.specs.declared.limits.TheConstants as file
use Rattle.plain_store.specs.declared.worker.TheConstants as worker
use Rattle.plain_store.specs.Store.{StoreHistory, Flushes}
use Rattle.replay_files.proofs.AppliedEvents.{more_events}
use Rattle.library_examples.specs.Counting.{AreLinesApplied, AreLinesFlushed, AreFlushedInTurn, Stays}
use Rattle.library_examples.proofs.StoreKept.{events, flushed}

module _ {S : Type 0} (state : S → SourceState) where
  module _ (source : S) (old new : StoreHistory) (verdicts : List Verdict) (end : FileEnd)
      (lines : AreLinesApplied state source old new verdicts end)
      (room : length old.worker.events + file.MAX_EVENTS ≤ worker.MAX_EVENTS) where
    pub lines_stay : Stays old new
    lines_stay config was =
        let few = lines.few in
        events config old new was lines.events verdicts lines.lawful (omega (arith, few, room)) lines.applied

    pub lines_few : length new.worker.events ≤ length old.worker.events + file.MAX_EVENTS
    lines_few =
        let more = more_events old new lines.events verdicts lines.applied in
        let few = lines.few in omega (arith, more, few)

    pub no_flush : new.flushes ≡ old.flushes
    no_flush = ap (λ (s : StoreHistory). s.flushes) lines.applied.applied

  -- one more source, behind those whose lines were applied
  pub in_turn_push : (sources : List S) (source : S) (old mid new : StoreHistory) (verdicts : List Verdict)
      (end : FileEnd) → AreFlushedInTurn state sources old mid
      → AreLinesFlushed state source mid new verdicts end → AreFlushedInTurn state (sources ++ source ∷ []) old new
  in_turn_push [] source old mid new verdicts end before now = (
    new,
    verdicts,
    end,
    (subst (λ (s : StoreHistory). AreLinesFlushed state source s new verdicts end) before now, refl),
  )
  in_turn_push (first ∷ sources) source old mid new verdicts end before now = (
    before.0,
    before.1,
    before.2,
    (before.3.0, in_turn_push sources source before.0 mid new verdicts end before.3.1 now),
  )

module _ (old new : StoreHistory) (flush : FlushRecord) (flushes : Flushes old flush new) where
  pub flush_stays : Stays old new
  flush_stays config was = flushed config old new was flush flushes

  pub same_events : length new.worker.events ≡ length old.worker.events
  same_events = ap (λ (s : StoreHistory). length s.worker.events) flushes.rest

  pub one_more_flush : new.flushes ≡ old.flushes ++ flush ∷ []
  one_more_flush = ap (λ (s : StoreHistory). s.flushes) flushes.rest

-- lines that left the flushes as they were, and then a flush, whose record was pushed behind those of the earlier ones
module _ (old mid new : StoreHistory) (flush : FlushRecord) (before after : List FlushRecord)
    (told : before ≡ old.flushes) (no_more : mid.flushes ≡ old.flushes) (flushes : Flushes mid flush new)
    (pushed : after ≡ before ++ flush ∷ []) where
  pub records_told : after ≡ new.flushes
  records_told =
      pushed ∙ ap (λ (fs : List FlushRecord). fs ++ flush ∷ []) (told ∙ sym no_more)
      ∙ sym (one_more_flush mid new flush flushes)

  pub one_more_record : length after ≡ length before + 1
  one_more_record = ap (λ (fs : List FlushRecord). length fs) pushed ∙ length-append before (flush ∷ [])

  pub both_stay : Stays old mid → Stays old new
  both_stay stays config was = flush_stays mid new flush flushes config (stays config was)

  pub as_few : (n : ℕ) → length mid.worker.events ≤ n → length new.worker.events ≤ n
  as_few n few = let same = same_events mid new flush flushes in omega (arith, same, few)
