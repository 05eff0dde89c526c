-- A store stays one of its configuration.
use Rattle.std.proofs.Common.{◌≡◌, ℕ, zero, suc, ◌+◌, ◌-◌, ◌≤◌, ◌<◌, List, [], ◌∷◌, ◌++◌, map, length, get_or, All, length-append, refl, ap, sym, ◌∙◌, subst, arith}
use Rattle.std.specs.List.{zip, AllByRecursion}
use Rattle.std.specs.List.Sorted.{IsNonDecreasing}
use Rattle.std.proofs.lemmas.List.{map-append}
use Rattle.std.proofs.lemmas.List.Elements.{All-nil, All-cons, All-append, All-push, recursion_from_All}
use Rattle.std.proofs.lemmas.List.Sorted.{IsNonDecreasingBy-push}
use Rattle.stat_defs.specs.Books.{BookHistory}
use Rattle.stat_defs.specs.declared.configs.Config.{Config}
use Rattle.stat_defs.specs.declared.events.Event.{Event}
use Rattle.stat_defs.specs.declared.history.Call.TheVariants as call
use Rattle.stat_defs.specs.declared.history.Entry.{Entry}
use Rattle.stat_defs.specs.declared.history.Reply.TheVariants as reply
use Rattle.stat_defs.specs.declared.history.Verdict.{Verdict}
use Rattle.stat_defs.specs.declared.reports.FlushRecord.{FlushRecord}
use Rattle.event_script.specs.Grammar.{IsLawful}
use Rattle.ledger.specs.Work.{Work}
use Rattle.ledger.proofs.WorkedParts.{none_falls}
use Rattle.plain_store.specs.declared.worker.TheConstants.{MAX_EVENTS}
use Rattle.plain_store.specs.Store.{StoreHistory, new_store, Applied, Flushes}
use Rattle.replay_files.specs.Applying.{AreApplied}
use Rattle.replay_files.proofs.AppliedEvents.{one_applied, zip_append}
use Rattle.library_examples.specs.StoreOf.{IsStoreOf}

abbrev pub place : FlushRecord → ℕ
place flush = flush.at

-- flushes that stand before place n do so before any later one
each_below : (n : ℕ) (flushes : List FlushRecord) → AllByRecursion (λ (flush : FlushRecord). flush.at < n) flushes
    → (k d : ℕ) → k < length (map place flushes) → get_or (map place flushes) k d < n
each_below n [] all k d within = absurd (omega (arith, within))
each_below n (f ∷ fs) all zero d within = all.0
each_below n (f ∷ fs) all (suc k) d within = each_below n fs all.1 k d (omega (arith, within))

below_more : (n m : ℕ) (flushes : List FlushRecord) → n ≤ m → All (λ (flush : FlushRecord). flush.at < n) flushes
    → All (λ (flush : FlushRecord). flush.at < m) flushes
below_more n m flushes more all k d within = let low = all k d within in omega (arith, low, more)

-- one more flush, which stands behind these
pub rising_push : (flushes : List FlushRecord) (flush : FlushRecord) → IsNonDecreasing (map place flushes)
    → All (λ (f : FlushRecord). f.at < flush.at) flushes → IsNonDecreasing (map place (flushes ++ flush ∷ []))
rising_push flushes flush rising all =
    subst IsNonDecreasing (sym (map-append place flushes (flush ∷ [])))
    (IsNonDecreasingBy-push (λ (n : ℕ). n) (map place flushes) flush.at rising (λ d some.
    let low = each_below flush.at flushes (recursion_from_All _ flushes all) (length (map place flushes) - 1) d (omega (arith, some)) in
    omega (arith, low)))

module _ (config : Config) where
  pub made : IsStoreOf config (new_store config)
  made = record {
    configured = refl;
    one_worker = refl;
    decided_whole = refl;
    counted = refl;
    flushed_whole = refl;
    lawful = All-nil IsLawful;
    few = omega arith;
    a_verdict_each = refl;
    rising = none_falls;
    logged = All-nil (λ (flush : FlushRecord). flush.at < length (new_store config).worker.book.log);
  }

  module _ (old new : StoreHistory) (was : IsStoreOf config old) where
    pub events : (es : List Event) (vs : List Verdict) → All IsLawful es
        → length old.worker.events + length es ≤ MAX_EVENTS → AreApplied old es vs new → IsStoreOf config new
    events es vs lawful room are = subst (λ (s : StoreHistory). IsStoreOf config s) (sym are.applied) (record {
      configured = was.configured;
      one_worker = was.one_worker;
      decided_whole = was.decided_whole;
      counted = ap (λ (work : Work). work ++ zip es vs) was.counted
          ∙ sym (zip_append old.worker.events es old.worker.verdicts vs was.a_verdict_each);
      flushed_whole = was.flushed_whole;
      lawful = All-append IsLawful old.worker.events es was.lawful lawful;
      few = (let long = length-append old.worker.events es in omega (arith, long, room));
      a_verdict_each = (
          let long = length-append old.worker.events es in
          let as_long = length-append old.worker.verdicts vs in
          let each = are.a_verdict_each in
          let before = was.a_verdict_each in omega (arith, long, as_long, each, before));
      rising = was.rising;
      logged = below_more (length old.worker.book.log) (length (old.worker.book.log ++ are.entries)) old.flushes
          (let long = length-append old.worker.book.log are.entries in omega (arith, long)) was.logged;
    })

    pub event : (e : Event) (v : Verdict) → IsLawful e → length old.worker.events < MAX_EVENTS
        → Applied old e v new → IsStoreOf config new
    event e v lawful room applied =
        events (e ∷ []) (v ∷ []) (All-cons IsLawful e [] lawful (All-nil IsLawful)) (omega (arith, room))
        (one_applied old new e v applied)

    pub flushed : (flush : FlushRecord) → Flushes old flush new → IsStoreOf config new
    flushed flush flushes =
        let entry : Entry = record { seat = 0; call = call.Sweep; reply = reply.Swept flushes.swept.0 } in
        let log : List Entry = old.worker.book.log ++ entry ∷ [] in
        let with_book : BookHistory → StoreHistory =
        λ b. record old { worker = record old.worker { book = b }; flushes = old.flushes ++ flush ∷ [] } in
        let longer : length log ≡ suc (length old.worker.book.log) =
        (let long = length-append old.worker.book.log (entry ∷ []) in omega (arith, long)) in
        let at = flushes.at in
        subst (λ (s : StoreHistory). IsStoreOf config s) (sym (flushes.rest ∙ ap with_book flushes.swept.1.logged)) (record {
          configured = was.configured;
          one_worker = was.one_worker;
          decided_whole = was.decided_whole;
          counted = was.counted;
          flushed_whole = was.flushed_whole;
          lawful = was.lawful;
          few = was.few;
          a_verdict_each = was.a_verdict_each;
          rising = rising_push old.flushes flush was.rising
              (below_more (length old.worker.book.log) flush.at old.flushes (omega (arith, at)) was.logged);
          logged = All-push (λ (f : FlushRecord). f.at < length log) old.flushes flush
              (below_more (length old.worker.book.log) (length log) old.flushes (omega (arith, longer)) was.logged)
              (omega (arith, at, longer));
        })
