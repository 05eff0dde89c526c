-- The deltas of flushes are of counters that were made.
use Rattle.std.proofs.Common.{◌≡◌, ◌&&◌, not, ℕ, zero, suc, ◌+◌, Bool, true, false, cond, Option, None, Some, List, [], ◌∷◌, map, take, drop, slice_get, refl, ap, sym, ◌∙◌, subst, arith, inl, inr}
use Rattle.std.specs.Prelude.{sum_by}
use Rattle.std.specs.List.{AllByRecursion}
use Rattle.std.specs.Option.{option_map, option_map_or}
use Rattle.std.proofs.lemmas.Bool.{cases_Bool}
use Rattle.std.proofs.lemmas.List.{take-append-drop}
use Rattle.std.proofs.lemmas.List.Sums.{sum_by-cons}
use Rattle.stat_defs.specs.declared.history.Entry.{Entry}
use Rattle.stat_defs.specs.declared.ids.Kind.{Kind}
use Rattle.stat_defs.specs.declared.ids.Kind.TheVariants.{Counter}
use Rattle.stat_defs.specs.declared.ids.MetricId.{MetricId}
use Rattle.stat_defs.specs.declared.metrics.Metric.{Metric}
use Rattle.stat_defs.specs.declared.reports.Delta.{Delta}
use Rattle.stat_defs.specs.declared.reports.FlushRecord.{FlushRecord}
use Rattle.stat_defs.specs.Keys.{same_kind}
use Rattle.book_state.specs.Log.{empty, replay_from, replay}
use Rattle.book_state.specs.State.{NameRules, Row, State, is_gone, metrics_of, ids_from}
use Rattle.book_state.proofs.Growing.{replayed_on}
use Rattle.book_state.proofs.Lists.{both, true_false, some_same, not_some, get_map, map_some}
use Rattle.book_state.proofs.Staying.{run_still}
use Rattle.ledger.specs.Flushes.{ids_made, counters_shown, id_of_delta, delta_on, flushed_in, flushed}
use Rattle.ledger.proofs.Lists.{nil_cons, head_same, tail_same, number_apart}

abbrev Held : (ℕ → Type 0) → List MetricId → Type 0
Held P ids = AllByRecursion (λ (i : MetricId). P i.0) ids

module _ (holds : Metric → Bool) (P : ℕ → Type 0) where
  -- what holds of each number at which such a metric stands holds of the numbers of those metrics
  held_at_each : (n : ℕ) (metrics : List Metric)
      → ((j k : ℕ) (m : Metric) → k ≡ n + j → slice_get metrics j ≡ Some m → holds m ≡ true → P k)
      → Held P (ids_from holds n metrics)
  held_at_each n [] each = tt
  held_at_each n (m ∷ metrics) each = by_case (holds m) refl
      (held_at_each (n + 1) metrics (λ j k x at there is. each (suc j) k x (omega (arith, at)) there is)) where
        by_case : (b : Bool) → holds m ≡ b → Held P (ids_from holds (n + 1) metrics)
            → Held P (cond b (record { 0 = n } ∷ ids_from holds (n + 1) metrics) (ids_from holds (n + 1) metrics))
        by_case true is rest = (each 0 n m (omega arith) refl is, rest)
        by_case false is rest = rest

  -- and the other way round
  each_held_at : (n : ℕ) (metrics : List Metric) → Held P (ids_from holds n metrics) → (j k : ℕ) (m : Metric)
      → k ≡ n + j → slice_get metrics j ≡ Some m
      → holds m ≡ true → P k
  each_held_at n [] held j k m at there is = absurd (not_some m there)
  each_held_at n (x ∷ metrics) held zero k m at there is =
      let here : holds x ≡ true = ap holds (some_same x m there) ∙ is in
      let rest : List MetricId = ids_from holds (n + 1) metrics in
      let own = subst (λ b. Held P (cond b (record { 0 = n } ∷ rest) rest)) here held in
      subst P (omega (arith, at)) own.0
  each_held_at n (x ∷ metrics) held (suc j) k m at there is =
      each_held_at (n + 1) metrics (by_case (holds x) held) j k m (omega (arith, at)) there is where
        by_case : (b : Bool)
            → Held P (cond b (record { 0 = n } ∷ ids_from holds (n + 1) metrics) (ids_from holds (n + 1) metrics))
            → Held P (ids_from holds (n + 1) metrics)
        by_case true all = all.1
        by_case false all = all

-- a counter of this number was made
abbrev pub was_made : State → ℕ → Bool
was_made s id = option_map_or (λ (row : Row). same_kind row.metric.kind Counter) (slice_get s.metrics id) false

made_of_row : (s : State) (id : ℕ) (row : Row) → slice_get s.metrics id ≡ Some row
    → same_kind row.metric.kind Counter ≡ true → was_made s id ≡ true
made_of_row s id row there is =
    ap (λ (o : Option Row). option_map_or (λ (r : Row). same_kind r.metric.kind Counter) o false) there ∙ is

row_made : (s : State) (id : ℕ) → was_made s id ≡ true
    → (row : Row) × (slice_get s.metrics id ≡ Some row) × (same_kind row.metric.kind Counter ≡ true)
row_made s id made = by_row (slice_get s.metrics id) refl made where
  by_row : (o : Option Row) → slice_get s.metrics id ≡ o
      → option_map_or (λ (row : Row). same_kind row.metric.kind Counter) o false ≡ true
      → (row : Row) × (slice_get s.metrics id ≡ Some row) × (same_kind row.metric.kind Counter ≡ true)
  by_row None there is = absurd (true_false (sym is))
  by_row (Some row) there is = (row, there, is)

made_at : (s : State) (id : ℕ) (m : Metric) → slice_get (metrics_of s) id ≡ Some m → same_kind m.kind Counter ≡ true
    → was_made s id ≡ true
made_at s id m there is =
    let row = map_some (λ (r : Row). r.metric) (slice_get s.metrics id) m
    (sym (get_map (λ (r : Row). r.metric) s.metrics id) ∙ there) in
    made_of_row s id row.0 row.1 (ap (λ (x : Metric). same_kind x.kind Counter) (sym row.2) ∙ is)

module _ (rules : NameRules) (workers : ℕ) (log : List Entry) where
  abbrev whole : State
  whole = replay rules workers log

  made_later : (at id : ℕ) → was_made (replay rules workers (take at log)) id ≡ true → was_made whole id ≡ true
  made_later at id made =
      let before : State = replay rules workers (take at log) in
      let row = row_made before id made in
      let still = run_still rules before (drop at log) id row.0 row.1 in
      let same : replay rules workers log ≡ replay_from rules before (drop at log) =
      ap (λ (l : List Entry). replay rules workers l) (sym (take-append-drop at log))
      ∙ replayed_on rules (empty workers) (take at log) (drop at log) in
      subst (λ (s : State). was_made s id ≡ true) (sym same)
      (made_of_row (replay_from rules before (drop at log)) id still.0 still.1
      (ap (λ (k : Kind). same_kind k Counter) still.2.kind ∙ row.2))

  abbrev Made : ℕ → Type 0
  Made id = was_made whole id ≡ true

  shown_made : (last : Bool) (at : ℕ) → Held Made (counters_shown last (replay rules workers (take at log)) whole)
  shown_made true at = held_at_each (λ metric. same_kind metric.kind Counter) Made 0 (metrics_of whole)
      (λ j k m is there counter. let same : k ≡ j = omega (arith, is) in
      made_at whole k m (ap (λ (n : ℕ). slice_get (metrics_of whole) n) same ∙ there) counter)
  shown_made false at =
      let before : State = replay rules workers (take at log) in
      held_at_each (λ metric. same_kind metric.kind Counter && not (is_gone metric.life)) Made 0 (metrics_of before)
      (λ j k m is there left. let same : k ≡ j = omega (arith, is) in
      made_later at k (made_at before k m (ap (λ (n : ℕ). slice_get (metrics_of before) n) same ∙ there)
      (both (same_kind m.kind Counter) (not (is_gone m.life)) left).0))

  -- each delta is of a counter that was made
  abbrev pub OfMade : FlushRecord → Type 0
  OfMade flush = AllByRecursion (λ delta. was_made whole delta.id.0 ≡ true) flush.deltas

  each_delta : (ids : List MetricId) (deltas : List Delta) → map id_of_delta deltas ≡ ids → Held Made ids
      → AllByRecursion (λ delta. was_made whole delta.id.0 ≡ true) deltas
  each_delta ids [] same held = tt
  each_delta [] (d ∷ deltas) same held = absurd (nil_cons d.id (map id_of_delta deltas) (sym same))
  each_delta (i ∷ ids) (d ∷ deltas) same held = (
    subst (λ (x : MetricId). was_made whole x.0 ≡ true)
        (sym (head_same d.id i (map id_of_delta deltas) ids same)) held.0,
    each_delta ids deltas (tail_same d.id i (map id_of_delta deltas) ids same) held.1,
  )

  pub deltas_made : (last : Bool) (flush : FlushRecord)
      → map id_of_delta flush.deltas ≡ counters_shown last (replay rules workers (take flush.at log)) whole
      → OfMade flush
  deltas_made last flush same = each_delta _ flush.deltas same (shown_made last flush.at)

  none_in : (id : ℕ) → was_made whole id ≡ false → (deltas : List Delta)
      → AllByRecursion (λ delta. was_made whole delta.id.0 ≡ true) deltas
      → sum_by (delta_on id) deltas ≡ 0
  none_in id none [] made = refl
  none_in id none (d ∷ deltas) made =
      let apart = number_apart d.id.0 id
      (λ same. true_false (sym made.0 ∙ ap (λ (n : ℕ). was_made whole n) same ∙ none)) in
      let head : delta_on id d ≡ 0 = ap (λ (b : Bool). cond b d.n 0) apart in
      let rest = none_in id none deltas made.1 in
      let all = sum_by-cons (delta_on id) d deltas in
      omega (arith, head, rest, all)

  none_flushed : (id : ℕ) → was_made whole id ≡ false → (flushes : List FlushRecord) → AllByRecursion OfMade flushes
      → flushed id flushes ≡ 0
  none_flushed id none [] made = refl
  none_flushed id none (flush ∷ flushes) made =
      let head = none_in id none flush.deltas made.0 in
      let rest = none_flushed id none flushes made.1 in
      let all = sum_by-cons (flushed_in id) flush flushes in
      omega (arith, head, rest, all)

  -- what holds of the units of each counter that was made, and of none, holds of those of each number
  pub each_flushed : (Q : ℕ → Type 0) (flushes : List FlushRecord) → AllByRecursion OfMade flushes
      → AllByRecursion (λ (i : MetricId). Q (flushed i.0 flushes)) (ids_made Counter whole) → Q 0 → (id : ℕ)
      → Q (flushed id flushes)
  each_flushed Q flushes made all none id = elim (cases_Bool (was_made whole id)) [
    | inl is ↦
        let row = row_made whole id is in
        each_held_at (λ metric. same_kind metric.kind Counter) (λ n. Q (flushed n flushes)) 0 (metrics_of whole)
        all id id row.0.metric (omega arith)
        (get_map (λ (r : Row). r.metric) whole.metrics id ∙ ap (option_map (λ (r : Row). r.metric)) row.1) row.2
    | inr is ↦ subst Q (sym (none_flushed id is flushes made)) none
  ]
