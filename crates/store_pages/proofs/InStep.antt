-- A store and its views stay in step.
use Rattle.std.proofs.Common.{◌≡◌, ℕ, zero, suc, ◌-◌, ◌≤◌, ◌<◌, true, List, [], ◌∷◌, ◌++◌, map, length, get_or, All, length-append, append-nil, refl, ap, sym, ◌∙◌, subst, arith}
use Rattle.std.specs.List.{AllByRecursion}
use Rattle.std.specs.List.Sorted.{IsNonDecreasing}
use Rattle.std.proofs.lemmas.List.{map-append}
use Rattle.std.proofs.lemmas.List.Elements.{All-nil, All-push, All-weaker, recursion_from_All}
use Rattle.std.proofs.lemmas.List.Sorted.{IsNonDecreasingBy-push}
use Rattle.stat_defs.specs.Books.{BookHistory}
use Rattle.stat_defs.specs.Events.{IsLawfulEvent}
use Rattle.stat_defs.specs.declared.configs.Config.{Config}
use Rattle.stat_defs.specs.declared.events.Event.{Event}
use Rattle.stat_defs.specs.declared.history.Call.TheVariants as call
use Rattle.stat_defs.specs.declared.history.Entry.{Entry}
use Rattle.stat_defs.specs.declared.history.Reply.TheVariants as reply
use Rattle.stat_defs.specs.declared.history.Verdict.{Verdict}
use Rattle.stat_defs.specs.declared.reports.FlushRecord.{FlushRecord}
use Rattle.stat_defs.specs.declared.views.FlushView.{FlushView}
use Rattle.book_state.specs.Stored.{IsLawfulCall}
use Rattle.stat_book.specs.Calls.{IsLegal}
use Rattle.ledger.specs.Work.{Work}
use Rattle.ledger.proofs.WorkedParts.{none_falls}
use Rattle.plain_store.specs.declared.worker.TheConstants.{MAX_EVENTS}
use Rattle.text_parts.specs.Histograms.{AreHistograms, HasHistograms}
use Rattle.flush_view.specs.Showing.{HasBinsShown}
use Rattle.live_view.specs.Live.{LiveHistory, CanBeShown, no_views}
use Rattle.plain_store.specs.Store.{StoreHistory, AccountsSoFar, Flushes, new_store}
use Rattle.store_pages.specs.PagesKept.{AreInStep, AreKept}
use Rattle.store_pages.proofs.CanShow.{can_be_shown}

abbrev place : FlushRecord → ℕ
place flush = flush.at

-- flushes that stand before place n do so before any later one
each_below : (n : ℕ) (flushes : List FlushRecord) → AllByRecursion (λ (flush : FlushRecord). flush.at < n) flushes
    → (k d : ℕ) → k < length (map place flushes) → get_or (map place flushes) k d < n
each_below n [] all k d within = absurd (omega (arith, within))
each_below n (f ∷ fs) all zero d within = all.0
each_below n (f ∷ fs) all (suc k) d within = each_below n fs all.1 k d (omega (arith, within))

below_more : (n m : ℕ) (flushes : List FlushRecord) → n ≤ m → All (λ (flush : FlushRecord). flush.at < n) flushes
    → All (λ (flush : FlushRecord). flush.at < m) flushes
below_more n m flushes more all k d within = let low = all k d within in omega (arith, low, more)

-- one more flush, which stands behind these
rising_push : (flushes : List FlushRecord) (flush : FlushRecord) → IsNonDecreasing (map place flushes)
    → All (λ (f : FlushRecord). f.at < flush.at) flushes → IsNonDecreasing (map place (flushes ++ flush ∷ []))
rising_push flushes flush rising all =
    subst IsNonDecreasing (sym (map-append place flushes (flush ∷ [])))
    (IsNonDecreasingBy-push (λ (n : ℕ). n) (map place flushes) flush.at rising (λ d some.
    let low = each_below flush.at flushes (recursion_from_All _ flushes all) (length (map place flushes) - 1) d (omega (arith, some)) in
    omega (arith, low)))

abbrev IsLawfulTold : Event × Verdict → Type 0
IsLawfulTold told = IsLawfulEvent told.0

first : (config : Config) → AreKept (new_store config) (no_views config 1) true
first config = record {
  config = refl;
  workers = refl;
  lawful = All-nil IsLawfulTold;
  counted = omega arith;
  few = omega arith;
  in_step = λ whole. record {
    store_whole = refl;
    views_whole = refl;
    flushes = refl;
    more = (new_store config).worker.book.log;
    log = refl;
    rising = none_falls;
    logged = All-nil (λ (flush : FlushRecord). flush.at < length (new_store config).worker.book.log);
  };
}

-- a new store and new views
pub opened : (config : Config) (store : StoreHistory) (views : LiveHistory) → store ≡ new_store config
    → views ≡ no_views config 1 → AreKept store views true
opened config store views made begun =
    subst (λ (s : StoreHistory). AreKept s views true) (sym made)
    (subst (λ (v : LiveHistory). AreKept (new_store config) v true) (sym begun) (first config))

module _ (store new : StoreHistory) (views : LiveHistory) (kept : AreKept store views true) (flush : FlushRecord)
    (flushes : Flushes store flush new) where
  was : AreInStep store views
  was = kept.in_step refl

  abbrev entry : Entry
  entry = record { seat = 0; call = call.Sweep; reply = reply.Swept flushes.swept.0 }

  log_is : new.worker.book.log ≡ store.worker.book.log ++ entry ∷ []
  log_is = ap (λ (b : BookHistory). b.log) flushes.swept.1.logged

  flushes_are : new.flushes ≡ store.flushes ++ flush ∷ []
  flushes_are = ap (λ (s : StoreHistory). s.flushes) flushes.rest

  shown_are : new.flushes ≡ views.flushes ++ flush ∷ []
  shown_are = flushes_are ∙ ap (λ (fs : List FlushRecord). fs ++ flush ∷ []) (sym was.flushes)

  config_is : new.worker.book.config ≡ store.worker.book.config
  config_is = ap (λ (b : BookHistory). b.config) flushes.swept.1.logged

  longer : length new.worker.book.log ≡ suc (length store.worker.book.log)
  longer =
      let long = ap (λ (l : List Entry). length l) log_is in
      let both = length-append store.worker.book.log (entry ∷ []) in
      omega (arith, long, both)

  rising : IsNonDecreasing (map place new.flushes)
  rising =
      let at = flushes.at in
      subst (λ (fs : List FlushRecord). IsNonDecreasing (map place fs)) (sym flushes_are)
      (rising_push store.flushes flush was.rising
      (below_more (length store.worker.book.log) flush.at store.flushes (omega (arith, at)) was.logged))

  work_is : new.counted ≡ store.counted
  work_is = ap (λ (s : StoreHistory). s.counted) flushes.rest

  lawful_now : All IsLawfulTold new.counted
  lawful_now = subst (λ (w : Work). All IsLawfulTold w) (sym work_is) kept.lawful

  few_counted : length new.counted ≤ MAX_EVENTS
  few_counted =
      let same = ap (λ (w : Work). length w) work_is in
      let counted = kept.counted in
      let few = kept.few in
      omega (arith, same, counted, few)

  store_whole : new.whole ≡ true
  store_whole = ap (λ (s : StoreHistory). s.whole) flushes.rest ∙ was.store_whole

  -- what the store tells behind the flush can be shown
  pub shows : IsLegal new.worker.book → new.worker.book.workers ≡ 1
      → All (λ (entry : Entry). IsLawfulCall entry.call) new.worker.book.log
      → (new.whole ≡ true → AccountsSoFar new)
      → CanBeShown views.config views.workers new.worker.book.log (views.flushes ++ flush ∷ [])
  shows legal one_worker calls accounts =
      subst (λ (c : Config). CanBeShown c views.workers new.worker.book.log (views.flushes ++ flush ∷ []))
      (config_is ∙ sym kept.config)
      (subst (λ (n : ℕ). CanBeShown new.worker.book.config n new.worker.book.log (views.flushes ++ flush ∷ []))
      (sym kept.workers)
      (subst (λ (fs : List FlushRecord). CanBeShown new.worker.book.config 1 new.worker.book.log fs) shown_are
      (can_be_shown new (record {
        legal = legal;
        one_worker = one_worker;
        calls = calls;
        lawful = lawful_now;
        few = few_counted;
        accounts = accounts store_whole;
        rising = rising;
      }))))

  -- and they are in step again
  pub in_step : (after : LiveHistory)
      → after ≡ record views { log = new.worker.book.log; flushes = views.flushes ++ flush ∷ [] } → AreKept new after true
  in_step after is =
      let at = flushes.at in
      let same = ap (λ (w : Work). length w) work_is in
      let events = ap (λ (s : StoreHistory). length s.worker.events) flushes.rest in
      let counted = kept.counted in
      let few = kept.few in
      record {
        config = ap (λ (v : LiveHistory). v.config) is ∙ kept.config ∙ sym config_is;
        workers = ap (λ (v : LiveHistory). v.workers) is ∙ kept.workers;
        lawful = lawful_now;
        counted = omega (arith, same, events, counted);
        few = omega (arith, events, few);
        in_step = λ so. record {
          store_whole = store_whole;
          views_whole = ap (λ (v : LiveHistory). v.whole) is ∙ was.views_whole;
          flushes = ap (λ (v : LiveHistory). v.flushes) is ∙ sym shown_are;
          more = [];
          log = sym (append-nil after.log ∙ ap (λ (v : LiveHistory). v.log) is);
          rising = rising;
          logged = subst (λ (fs : List FlushRecord). All (λ (f : FlushRecord). f.at < length new.worker.book.log) fs)
              (sym flushes_are)
              (All-push (λ (f : FlushRecord). f.at < length new.worker.book.log) store.flushes flush
              (below_more (length store.worker.book.log) (length new.worker.book.log) store.flushes
              (omega (arith, longer)) was.logged) (omega (arith, at, longer)));
        };
      }

-- the histograms of a view are such as texts ask for
pub has_histograms : (shown : FlushView) → All HasBinsShown shown.histograms → HasHistograms shown
has_histograms shown bins =
    All-weaker HasBinsShown AreHistograms
    (λ row has. record {
      interval = record { bins = has.interval.list; limit = has.interval.limit };
      cumulative = record { bins = has.cumulative.list; limit = has.cumulative.limit };
    })
    shown.histograms bins
