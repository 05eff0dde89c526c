-- What the record of a flush shows of the work.
use Rattle.std.proofs.Common.{◌≡◌, ℕ, zero, suc, ◌+◌, ◌<◌, ◌&&◌, not, Bool, true, false, cond, Option, option_map, Some, None, List, [], ◌∷◌, ◌++◌, map, filter, length, slice_get, All, append-nil, refl, ap, sym, ◌∙◌, subst, arith}
use Rattle.std.specs.Option.{option_map_or}
use Rattle.std.proofs.lemmas.List.{length-map}
use Rattle.stat_defs.specs.Books.{BookHistory}
use Rattle.stat_defs.specs.Keys.{same_kind}
use Rattle.stat_defs.specs.declared.bins.BinCount.{BinCount}
use Rattle.stat_defs.specs.declared.ids.Kind.{Kind}
use Rattle.stat_defs.specs.declared.ids.Kind.TheVariants.{Counter, Gauge}
use Rattle.stat_defs.specs.declared.ids.MetricId.{MetricId}
use Rattle.stat_defs.specs.declared.history.Call.TheVariants as call
use Rattle.stat_defs.specs.declared.history.Reply.TheVariants as reply
use Rattle.stat_defs.specs.declared.metrics.Metric.{Metric}
use Rattle.stat_defs.specs.declared.metrics.Life.TheVariants.{Gone}
use Rattle.stat_defs.specs.declared.reports.FlushRecord.{FlushRecord}
use Rattle.stat_defs.specs.declared.reports.Reading.{Reading}
use Rattle.stat_defs.specs.declared.reports.Part.{Part}
use Rattle.merge_round.specs.Halves.{HalfState, bins_by}
use Rattle.merge_round.specs.Rounds.{worker_values, ArePartsOf}
use Rattle.book_state.specs.State.{State, Row, is_gone, metrics_of, names_in}
use Rattle.book_state.specs.Step.{swept, overdue}
use Rattle.book_state.specs.Log.{replay}
use Rattle.book_state.proofs.Lists.{get_map}
use Rattle.stat_book.specs.Calls.{rules_of, state_of, Logged}
use Rattle.ledger.specs.Work.{units_of}
use Rattle.ledger.specs.Gauges.{gauge_word}
use Rattle.ledger.specs.Segments.{segment_of, left_over, bins_by_worker}
use Rattle.ledger.specs.Flushes.{ids_not_gone, id_of_delta, id_of_reading, Fits, FitSoFar, flushed}
use Rattle.ledger.proofs.Names.{kinds, deltas}
use Rattle.ledger.proofs.Sums.{units_flush}
use Rattle.ledger.proofs.Sweeps.{fits_at}
use Rattle.ledger.proofs.PartLists.{all, nothing_left, less}
use Rattle.ledger.proofs.FlushesFit.{all_entries, all_flush}
use Rattle.plain_store.specs.declared.sums.Sums.{Sums}
use Rattle.plain_store.specs.Sums.{number_at, is_of_kind, delta_in, delta_of, reading_of, is_among, Shows, IsEmptied}
use Rattle.plain_store.specs.Store.{StoreHistory, Accounts}
use Rattle.plain_store.specs.StoreKept.{is_counter_there, AreOfWork}
use Rattle.plain_store.proofs.Numbers.{is_not}
use Rattle.plain_store.proofs.Listed.{listed_within, delta_ids, reading_ids, reading_words, listed_among, passes}

-- the values of a round in which the worker's half alone was taken
values_are : (half : HalfState) (worker : ℕ) → worker_values worker ((1, half) ∷ []) ≡ segment_of (half.values ∷ []) worker
values_are half zero = refl
values_are half (suc zero) = append-nil half.values
values_are half (suc (suc worker)) = ap (λ (t : Bool). cond t half.values [] ++ []) (is_not 1 (suc (suc worker)) (λ e. omega (arith, e)))

-- a sweep leaves each metric its kind
pub swept_kind : (kind : Kind) (old new : BookHistory) (n : ℕ) → Logged old 0 call.Sweep (reply.Swept n) new → (id : MetricId)
    → is_of_kind kind (state_of new) id ≡ is_of_kind kind (state_of old) id
swept_kind kind old new n l id =
    ap (λ (s : State). is_of_kind kind s id) l.step.after
    ∙ (ap (λ (o : Option Metric). option_map_or (λ (m : Metric). same_kind m.kind kind) o false) (get_map (λ (row : Row). row.metric) (map (swept (state_of old).seats) (state_of old).metrics) id.0 ∙ ap (option_map (λ (row : Row). row.metric)) (get_map (swept (state_of old).seats) (state_of old).metrics id.0))
    ∙ (of_row (slice_get (state_of old).metrics id.0) ∙ sym (ap (λ (o : Option Metric). option_map_or (λ (m : Metric). same_kind m.kind kind) o false) (get_map (λ (row : Row). row.metric) (state_of old).metrics id.0)))) where
      by_case : (row : Row) (t : Bool) → same_kind (cond t (record row { metric = record row.metric { life = Gone } }) row).metric.kind kind ≡ same_kind row.metric.kind kind
      by_case row true = refl
      by_case row false = refl

      of_row : (o : Option Row) → option_map_or (λ (m : Metric). same_kind m.kind kind) (option_map (λ (row : Row). row.metric) (option_map (swept (state_of old).seats) o)) false ≡ option_map_or (λ (m : Metric). same_kind m.kind kind) (option_map (λ (row : Row). row.metric) o) false
      of_row None = refl
      of_row (Some row) = by_case row (overdue (state_of old).seats row.metric.life)

same_filter : {X : Type 0} (p q : X → Bool) → ((x : X) → p x ≡ q x) → (xs : List X) → filter p xs ≡ filter q xs
same_filter {X} p q same xs = ap (λ (f : X → Bool). filter f xs) (λ i x. same x i)

pub kind_shown : (kind : Kind) (old new : BookHistory) (n : ℕ) → Logged old 0 call.Sweep (reply.Swept n) new → (list : List MetricId) → list ≡ names_in (state_of old)
    → filter (is_of_kind kind (state_of new)) list ≡ ids_not_gone kind (state_of old)
kind_shown kind old new n l list are =
    same_filter (is_of_kind kind (state_of new)) (is_of_kind kind (state_of old)) (swept_kind kind old new n l) list
    ∙ (ap (filter (is_of_kind kind (state_of old))) are ∙ kinds kind (state_of old))

-- a counter that is not gone, among the metrics
passes_there : (s : State) (id : ℕ) → passes (λ m. same_kind m.kind Counter && not (is_gone m.life)) (metrics_of s) id ≡ is_counter_there s id
passes_there s id = ap (λ (o : Option Metric). option_map_or (λ m. same_kind m.kind Counter && not (is_gone m.life)) o false) (get_map (λ (row : Row). row.metric) s.metrics id) ∙ of_row (slice_get s.metrics id) where
  of_row : (o : Option Row) → option_map_or (λ (m : Metric). same_kind m.kind Counter && not (is_gone m.life)) (option_map (λ (row : Row). row.metric) o) false
      ≡ option_map_or (λ (row : Row). same_kind row.metric.kind Counter && not (is_gone row.metric.life)) o false
  of_row None = refl
  of_row (Some row) = refl

-- the parts of a flush are those of what is left over
pub parts_left : (old : StoreHistory) (before : Sums) (parts : List Part) → ArePartsOf (λ worker. bins_by (worker_values worker (before.parents.round ++ (1, before.half) ∷ []))) parts → AreOfWork old before
    → ArePartsOf (bins_by_worker (left_over 1 old.counted old.flushes ∷ [])) parts
parts_left old before parts shown was =
    subst (λ (values : List (ℕ × ℕ)). ArePartsOf (bins_by_worker (values ∷ [])) parts) was.left
    (subst (λ (f : ℕ → ℕ → List BinCount). ArePartsOf f parts) (λ i worker. bins_by (values_are before.half worker i))
    (subst (λ (round : List (ℕ × HalfState)). ArePartsOf (λ worker. bins_by (worker_values worker (round ++ (1, before.half) ∷ []))) parts) was.none_merged shown))

module _ (old : StoreHistory) (book : BookHistory) (n : ℕ) (swept : Logged old.worker.book 0 call.Sweep (reply.Swept n) book)
    (one : old.worker.book.workers ≡ 1) (before after : Sums) (flush : FlushRecord)
    (shows : Shows before (length old.worker.book.log) (ids_not_gone Counter (state_of old.worker.book)) (ids_not_gone Gauge (state_of old.worker.book)) flush)
    (emptied : IsEmptied before flush after) (was : AreOfWork old before) where
  abbrev s : State
  s = state_of old.worker.book

  abbrev left : List (ℕ × ℕ)
  left = left_over 1 old.counted old.flushes

  abbrev new : StoreHistory
  new = record old { worker = record old.worker { book = book }; flushes = old.flushes ++ flush ∷ [] }

  -- the units that the flush shows of a counter are its delta
  shown_units : (id : ℕ) → (passing : Bool) → is_counter_there s id ≡ passing → cond passing (delta_in before id) 0 ≡ delta_in before id
  shown_units id true is = refl
  shown_units id false is = sym (was.none_elsewhere id is)

  parts_of : ArePartsOf (bins_by_worker (left ∷ [])) flush.parts
  parts_of = parts_left old before flush.parts shows.parts was

  fits_now : Fits (rules_of old.worker.book) book.log false (left ∷ []) flush
  fits_now = subst (λ (b : BookHistory). Fits (rules_of old.worker.book) b.log false (left ∷ []) flush) (sym swept.logged)
      (fits_at (rules_of old.worker.book) old.worker.book.log (record { seat = 0; call = call.Sweep; reply = reply.Swept n }) false (left ∷ []) flush refl shows.place
      (subst (λ (k : ℕ). map id_of_delta flush.deltas ≡ ids_not_gone Counter (replay (rules_of old.worker.book) k old.worker.book.log)) one
      (ap (map id_of_delta) shows.deltas ∙ delta_ids before.deltas.items (ids_not_gone Counter s)))
      (subst (λ (k : ℕ). map id_of_reading flush.gauges ≡ ids_not_gone Gauge (replay (rules_of old.worker.book) k old.worker.book.log)) one
      (ap (map id_of_reading) shows.gauges ∙ reading_ids before.words.items (ids_not_gone Gauge s)))
      parts_of)

  units_now : (id : ℕ) → flushed id (old.flushes ++ flush ∷ []) ≡ units_of id (old.counted ∷ [])
  units_now id =
      let more = units_flush id old.flushes flush in
      let shown = deltas (λ m. same_kind m.kind Counter && not (is_gone m.life)) (metrics_of s) (number_at before.deltas.items) flush id shows.deltas in
      let same = ap (λ (t : Bool). cond t (delta_in before id) 0) (passes_there s id) in
      let all_of = shown_units id (is_counter_there s id) refl in
      let was_units = was.units id in
      omega (arith, more, shown, same, all_of, was_units)

  pub flush_accounts : Accounts old book.log false flush
  flush_accounts = record {
    fits = fits_now;
    units = units_now;
    words = subst (All (λ (reading : Reading). reading.word ≡ gauge_word reading.id.0 old.counted)) (sym shows.gauges)
        (reading_words before.words.items (λ id. gauge_word id old.counted) was.words (ids_not_gone Gauge s));
  }

  emptied_at : (id : ℕ) → delta_in after id ≡ 0
  emptied_at id = emptied.deltas id ∙ by_case (is_counter_there s id) refl where
    by_case : (t : Bool) → is_counter_there s id ≡ t → cond (is_among flush.deltas id) 0 (delta_in before id) ≡ 0
    by_case true is = ap (λ (t : Bool). cond t 0 (delta_in before id))
        (ap (λ ds. is_among ds id) shows.deltas ∙ listed_among before.deltas.items (λ m. same_kind m.kind Counter && not (is_gone m.life)) id (metrics_of s) (passes_there s id ∙ is))
    by_case false is = both_zero (is_among flush.deltas id) (was.none_elsewhere id is) where
      both_zero : (t : Bool) → delta_in before id ≡ 0 → cond t 0 (delta_in before id) ≡ 0
      both_zero true e = refl
      both_zero false e = e

  pub flushed_of_work : AreOfWork new after
  flushed_of_work = record {
    units = λ id. (let now = units_now id in let none = emptied_at id in omega (arith, now, none));
    none_elsewhere = λ id none. emptied_at id;
    words = λ id. emptied.words id ∙ was.words id;
    left = emptied.values ∙ sym (nothing_left old.counted old.flushes flush parts_of);
    none_merged = emptied.merged;
    takes_less = less old.counted old.flushes flush parts_of was.takes_less;
    fit = subst (λ (b : BookHistory). FitSoFar (rules_of b) b.log (old.counted ∷ []) (old.flushes ++ flush ∷ [])) (sym swept.logged)
        (all_flush (rules_of old.worker.book) (old.worker.book.log ++ record { seat = 0; call = call.Sweep; reply = reply.Swept n } ∷ []) (old.counted ∷ []) old.flushes flush
        (all_entries (rules_of old.worker.book) old.worker.book.log (record { seat = 0; call = call.Sweep; reply = reply.Swept n } ∷ []) (old.counted ∷ []) old.flushes was.fit)
        (subst (λ (segs : List (List (ℕ × ℕ))). Fits (rules_of old.worker.book) (old.worker.book.log ++ record { seat = 0; call = call.Sweep; reply = reply.Swept n } ∷ []) false segs flush)
        (sym (all old.counted old.flushes flush parts_of))
        (subst (λ (b : BookHistory). Fits (rules_of old.worker.book) b.log false (left ∷ []) flush) swept.logged fits_now)));
  }

-- what is shown, in other words
pub shows_as : (sums : Sums) (at at' : ℕ) (cs cs' gs gs' : List MetricId) (flush : FlushRecord) → at ≡ at' → cs ≡ cs' → gs ≡ gs' → Shows sums at cs gs flush → Shows sums at' cs' gs' flush
shows_as sums at at' cs cs' gs gs' flush places counters gauges shows = record {
  place = shows.place ∙ places;
  deltas = shows.deltas ∙ ap (map (delta_of sums.deltas.items)) counters;
  gauges = shows.gauges ∙ ap (map (reading_of sums.words.items)) gauges;
  parts = shows.parts;
}

-- a sweep leaves the number of metrics
pub swept_length : (old new : BookHistory) (n : ℕ) → Logged old 0 call.Sweep (reply.Swept n) new → length (state_of new).metrics ≡ length (state_of old).metrics
swept_length old new n l = ap (λ (s : State). length s.metrics) l.step.after ∙ length-map (state_of old).metrics (swept (state_of old).seats)

pub names_within : (old new : BookHistory) (n : ℕ) → Logged old 0 call.Sweep (reply.Swept n) new → (list : List MetricId) → list ≡ names_in (state_of old)
    → All (λ (id : MetricId). id.0 < length (state_of new).metrics) list
names_within old new n l list are =
    subst (λ (ids : List MetricId). All (λ (id : MetricId). id.0 < length (state_of new).metrics) ids) (sym are)
    (subst (λ (k : ℕ). All (λ (id : MetricId). id.0 < k) (names_in (state_of old)))
    (add_zero_left (length (metrics_of (state_of old))) ∙ (length-map (state_of old).metrics (λ (row : Row). row.metric) ∙ sym (swept_length old new n l)))
    (listed_within (λ metric. not (is_gone metric.life)) 0 (metrics_of (state_of old)))) where
      add_zero_left : (k : ℕ) → 0 + k ≡ k
      add_zero_left k = omega arith
