-- What the last flush shows of the work.
use Rattle.std.proofs.Common.{◌≡◌, ℕ, Bool, true, false, cond, Option, option_map, List, [], ◌∷◌, ◌++◌, map, length, All, length-append, refl, ap, sym, ◌∙◌, subst, arith}
use Rattle.std.specs.Option.{option_map_or}
use Rattle.stat_defs.specs.Books.{BookHistory}
use Rattle.stat_defs.specs.Keys.{same_kind}
use Rattle.stat_defs.specs.declared.ids.Kind.TheVariants.{Counter, Gauge}
use Rattle.stat_defs.specs.declared.history.Call.TheVariants as call
use Rattle.stat_defs.specs.declared.history.Entry.{Entry}
use Rattle.stat_defs.specs.declared.history.Reply.TheVariants as reply
use Rattle.stat_defs.specs.declared.metrics.Metric.{Metric}
use Rattle.stat_defs.specs.declared.reports.FlushRecord.{FlushRecord}
use Rattle.stat_defs.specs.declared.reports.LastFlush.{LastFlush}
use Rattle.stat_defs.specs.declared.reports.LogNames.{LogNames}
use Rattle.stat_defs.specs.declared.reports.Reading.{Reading}
use Rattle.merge_round.specs.Rounds.{ArePartsOf}
use Rattle.book_state.specs.State.{NameRules, State, Row, metrics_of}
use Rattle.book_state.specs.Follows.{Follows}
use Rattle.book_state.specs.Log.{replay}
use Rattle.book_state.proofs.Lists.{get_map, true_false}
use Rattle.stat_book.specs.Calls.{rules_of, state_of, IsLegal, Logged}
use Rattle.stat_book.specs.NameChanges.{names_of}
use Rattle.plain_store.specs.Worker.{WorkerHistory, IsFollowed}
use Rattle.ledger.specs.Work.{units_of}
use Rattle.ledger.specs.Gauges.{gauge_word}
use Rattle.ledger.specs.Segments.{left_over, bins_by_worker}
use Rattle.ledger.specs.Flushes.{ids_made, ids_not_gone, id_of_delta, id_of_reading, Fits, FitSoFar, FitAll, flushed}
use Rattle.ledger.proofs.Names.{deltas}
use Rattle.ledger.proofs.Sums.{units_flush}
use Rattle.ledger.proofs.Sweeps.{fits_at}
use Rattle.ledger.proofs.PartLists.{all}
use Rattle.ledger.proofs.FlushesFit.{all_entries, all_last}
use Rattle.plain_store.specs.declared.sums.Sums.{Sums}
use Rattle.plain_store.specs.Sums.{number_at, is_of_kind, as_id, delta_in, Shows, SweepsLast, EndsWith}
use Rattle.plain_store.specs.Store.{StoreHistory, Accounts, Finishes}
use Rattle.plain_store.specs.StoreKept.{is_counter_there, AreOfWork}
use Rattle.plain_store.proofs.CountersStay.{there_row}
use Rattle.plain_store.proofs.FlushLemmas.{swept_kind, parts_left}
use Rattle.plain_store.proofs.Listed.{delta_ids, reading_ids, reading_words}

-- the end of the seat changes no sum
pub ended_of_work : (old : StoreHistory) (mid : BookHistory) (sums : Sums) → Logged old.worker.book 1 call.End reply.Ended mid → AreOfWork old sums
    → AreOfWork (record old { worker = record old.worker { book = mid; ended = true } }) sums
ended_of_work old mid sums l was = record {
  units = was.units;
  none_elsewhere = λ id none. was.none_elsewhere id (ap (λ (s : State). is_counter_there s id) (sym l.step.after) ∙ none);
  words = was.words;
  left = was.left;
  none_merged = was.none_merged;
  takes_less = was.takes_less;
  fit = subst (λ (b : BookHistory). FitSoFar (rules_of b) b.log (old.counted ∷ []) old.flushes) (sym l.logged)
      (all_entries (rules_of old.worker.book) old.worker.book.log (record { seat = 1; call = call.End; reply = reply.Ended } ∷ []) (old.counted ∷ []) old.flushes was.fit);
}

module _ (old : StoreHistory) (book : BookHistory) (n : ℕ) (swept : Logged old.worker.book 0 call.Sweep (reply.Swept n) book)
    (one : old.worker.book.workers ≡ 1) (before : Sums) (flush : FlushRecord)
    (shows : Shows before (length old.worker.book.log) (ids_made Counter (state_of book)) (ids_not_gone Gauge (state_of old.worker.book)) flush)
    (was : AreOfWork old before) where
  abbrev s : State
  s = state_of old.worker.book

  abbrev left : List (ℕ × ℕ)
  left = left_over 1 old.counted old.flushes

  abbrev entry : Entry
  entry = record { seat = 0; call = call.Sweep; reply = reply.Swept n }

  parts_of : ArePartsOf (bins_by_worker (left ∷ [])) flush.parts
  parts_of = parts_left old before flush.parts shows.parts was

  -- a counter that was never made has no units
  not_made : (id : ℕ) → is_of_kind Counter (state_of book) (as_id id) ≡ false → is_counter_there s id ≡ false
  not_made id none = by_case (is_counter_there s id) refl where
    of_there : is_counter_there s id ≡ true → is_of_kind Counter s (as_id id) ≡ true
    of_there is = let row = there_row s id is in
        ap (λ (o : Option Metric). option_map_or (λ m. same_kind m.kind Counter) o false)
        (get_map (λ (row : Row). row.metric) s.metrics id ∙ ap (option_map (λ (row : Row). row.metric)) row.1) ∙ row.2

    by_case : (t : Bool) → is_counter_there s id ≡ t → t ≡ false
    by_case true is = absurd (true_false (sym (of_there is) ∙ (sym (swept_kind Counter old.worker.book book n swept (as_id id)) ∙ none)))
    by_case false is = refl

  shown_units : (id : ℕ) (made : Bool) → is_of_kind Counter (state_of book) (as_id id) ≡ made → cond made (delta_in before id) 0 ≡ delta_in before id
  shown_units id true is = refl
  shown_units id false is = sym (was.none_elsewhere id (not_made id is))

  units_now : (id : ℕ) → flushed id (old.flushes ++ flush ∷ []) ≡ units_of id (old.counted ∷ [])
  units_now id =
      let more = units_flush id old.flushes flush in
      let shown = deltas (λ m. same_kind m.kind Counter) (metrics_of (state_of book)) (number_at before.deltas.items) flush id shows.deltas in
      let all_of = shown_units id (is_of_kind Counter (state_of book) (as_id id)) refl in
      let was_units = was.units id in
      omega (arith, more, shown, all_of, was_units)

  made_are : map id_of_delta flush.deltas ≡ ids_made Counter (replay (rules_of old.worker.book) 1 (old.worker.book.log ++ entry ∷ []))
  made_are = subst (λ (k : ℕ). map id_of_delta flush.deltas ≡ ids_made Counter (replay (rules_of old.worker.book) k (old.worker.book.log ++ entry ∷ []))) one
      (ap (map id_of_delta) shows.deltas ∙ (delta_ids before.deltas.items (ids_made Counter (state_of book)) ∙ ap (λ (b : BookHistory). ids_made Counter (state_of b)) swept.logged))

  gauges_are : map id_of_reading flush.gauges ≡ ids_not_gone Gauge (replay (rules_of old.worker.book) 1 old.worker.book.log)
  gauges_are = subst (λ (k : ℕ). map id_of_reading flush.gauges ≡ ids_not_gone Gauge (replay (rules_of old.worker.book) k old.worker.book.log)) one
      (ap (map id_of_reading) shows.gauges ∙ reading_ids before.words.items (ids_not_gone Gauge s))

  fits_now : Fits (rules_of old.worker.book) (old.worker.book.log ++ entry ∷ []) true (left ∷ []) flush
  fits_now = fits_at (rules_of old.worker.book) old.worker.book.log entry true (left ∷ []) flush refl shows.place made_are gauges_are parts_of

  pub last_accounts : Accounts old (old.worker.book.log ++ entry ∷ []) true flush
  last_accounts = record {
    fits = fits_now;
    units = units_now;
    words = subst (All (λ (reading : Reading). reading.word ≡ gauge_word reading.id.0 old.counted)) (sym shows.gauges)
        (reading_words before.words.items (λ id. gauge_word id old.counted) was.words (ids_not_gone Gauge s));
  }

  pub last_fit : FitAll (rules_of old.worker.book) (old.worker.book.log ++ entry ∷ []) (old.counted ∷ []) (old.flushes ++ flush ∷ [])
  last_fit = all_last (rules_of old.worker.book) (old.worker.book.log ++ entry ∷ []) (old.counted ∷ []) old.flushes flush
      (all_entries (rules_of old.worker.book) old.worker.book.log (entry ∷ []) (old.counted ∷ []) old.flushes was.fit)
      (subst (λ (segs : List (List (ℕ × ℕ))). Fits (rules_of old.worker.book) (old.worker.book.log ++ entry ∷ []) true segs flush) (sym (all old.counted old.flushes flush parts_of)) fits_now)

-- the end of the seat, the last sweep and its record
module _ (old : StoreHistory) (mid new : BookHistory) (worker : WorkerHistory) (sums : Sums) (flush : FlushRecord) (at : ℕ) (log : List Entry)
    (ended : Logged old.worker.book 1 call.End reply.Ended mid) (sweeps : SweepsLast mid sums at new flush) (at_is : at ≡ length mid.log) (log_is : log ≡ new.log)
    (one : mid.workers ≡ 1) (legal : IsLegal new) (worker_is : worker ≡ record old.worker { book = new; ended = true }) (followed : worker.whole ≡ true → IsFollowed worker)
    (exact : old.whole ≡ true → AreOfWork old sums) (names : LogNames) (names_are : names ≡ names_of new) where
  abbrev ends : Entry
  ends = record { seat = 1; call = call.End; reply = reply.Ended }

  abbrev sweep : Entry
  sweep = record { seat = 0; call = call.Sweep; reply = reply.Swept sweeps.gone }

  abbrev at_end : StoreHistory
  at_end = record old { worker = record old.worker { book = mid; ended = true } }

  whole_log : log ≡ mid.log ++ sweep ∷ []
  whole_log = log_is ∙ ap (λ (b : BookHistory). b.log) sweeps.swept.logged

  shows : Shows sums (length mid.log) (ids_made Counter (state_of new)) (ids_not_gone Gauge (state_of mid)) flush
  shows = subst (λ (k : ℕ). Shows sums k (ids_made Counter (state_of new)) (ids_not_gone Gauge (state_of mid)) flush) at_is sweeps.shows

  same_rules : rules_of mid ≡ rules_of old.worker.book
  same_rules = ap (λ (b : BookHistory). rules_of b) ended.logged

  new_is : new ≡ record old.worker.book { log = log }
  new_is = sweeps.swept.logged ∙ (ap (λ (b : BookHistory). record b { log = mid.log ++ sweep ∷ [] }) ended.logged ∙ ap (λ (l : List Entry). record old.worker.book { log = l }) (sym whole_log))

  was : old.whole ≡ true → AreOfWork at_end sums
  was whole = ended_of_work old mid sums ended (exact whole)

  accounts : old.whole ≡ true → Accounts old log true flush
  accounts whole =
      let at_last = last_accounts at_end new sweeps.gone sweeps.swept one sums flush shows (was whole) in
      record {
        fits = subst (λ (rules : NameRules). Fits rules log true (left_over 1 old.counted old.flushes ∷ []) flush) same_rules
            (subst (λ (l : List Entry). Fits (rules_of mid) l true (left_over 1 old.counted old.flushes ∷ []) flush) (sym whole_log) at_last.fits);
        units = at_last.units;
        words = at_last.words;
      }

  pub finishes : Finishes old (record { last = flush; log = log; names = names })
  finishes = record {
    at = sweeps.shows.place ∙ (at_is ∙ (ap (λ (b : BookHistory). length b.log) ended.logged ∙ length-append old.worker.book.log (ends ∷ [])));
    swept = (sweeps.gone, whole_log ∙ ap (λ (b : BookHistory). b.log ++ sweep ∷ []) ended.logged);
    legal = subst (λ (b : BookHistory). IsLegal b) new_is legal;
    names = names_are ∙ ap (λ (b : BookHistory). names_of b) new_is;
    follows = λ whole.
        let follows = subst (λ (w : WorkerHistory). IsFollowed w) worker_is (followed (ap (λ (w : WorkerHistory). w.whole) worker_is ∙ whole)) in
        subst (λ (b : BookHistory). Follows (rules_of b) 1 1 old.worker.events old.worker.verdicts b.log) new_is follows;
    accounts = accounts;
    all_fit = λ whole.
        subst (λ (rules : NameRules). FitAll rules log (old.counted ∷ []) (old.flushes ++ flush ∷ [])) same_rules
        (subst (λ (l : List Entry). FitAll (rules_of mid) l (old.counted ∷ []) (old.flushes ++ flush ∷ [])) (sym whole_log)
        (last_fit at_end new sweeps.gone sweeps.swept one sums flush shows (was whole)));
  }

-- a worker with such sums that ended finishes the store
pub ends_finish : (old : StoreHistory) (sums : Sums) (given : LastFlush) → (old.whole ≡ true → AreOfWork old sums) → EndsWith old.worker sums given → Finishes old given
ends_finish old sums given exact e =
    finishes old e.ends.mid e.new.book e.new sums given.last (length e.ends.mid.log) given.log e.ends.ended e.ends.sweeps refl e.log e.ends.one_worker e.ends.legal e.ends.rest e.ends.followed exact given.names e.names
