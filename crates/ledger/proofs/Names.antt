-- The numbers of metrics that a flush shows.
use Rattle.std.proofs.Common.{◌≡◌, ℕ, zero, suc, ◌+◌, ◌<◌, ◌&&◌, cond, not, Bool, true, false, Some, List, [], ◌∷◌, ◌++◌, map, length, slice_get, refl, ap, ◌∙◌, subst, arith, append_assoc}
use Rattle.std.specs.Prelude.{sum_by}
use Rattle.std.specs.Option.{option_map_or}
use Rattle.std.proofs.lemmas.List.{length-append}
use Rattle.std.proofs.lemmas.List.Sums.{sum_by-cons}
use Rattle.stat_defs.specs.declared.ids.Kind.{Kind}
use Rattle.stat_defs.specs.declared.ids.MetricId.{MetricId}
use Rattle.stat_defs.specs.declared.metrics.Metric.{Metric}
use Rattle.stat_defs.specs.declared.reports.Delta.{Delta}
use Rattle.stat_defs.specs.declared.reports.FlushRecord.{FlushRecord}
use Rattle.stat_defs.specs.Keys.{same_kind}
use Rattle.book_state.specs.State.{State, is_gone, metrics_of, ids_from, names_in}
use Rattle.ledger.specs.Flushes.{ids_not_gone, delta_on, flushed_in}
use Rattle.ledger.specs.Laws.{those_of, delta_by}
use Rattle.ledger.proofs.Lists.{number_apart, number_same}

get_here : {X : Type 0} (front : List X) (x : X) (back : List X) (n : ℕ) → n ≡ length front → slice_get (front ++ x ∷ back) n ≡ Some x
get_here [] x back zero e = refl
get_here [] x back (suc n) e = absurd (omega (arith, e))
get_here (y ∷ front) x back zero e = absurd (omega (arith, e))
get_here (y ∷ front) x back (suc n) e = get_here front x back n (omega (arith, e))

module _ (one other : Metric → Bool) where
  abbrev both : Metric → Bool
  both metric = one metric && other metric

  kept_if : (all : List Metric) (n : ℕ) (a b : Bool) (is js : List MetricId) → option_map_or one (slice_get all n) false ≡ a → those_of one all is ≡ js
      → those_of one all (cond b (record { 0 = n } ∷ is) is) ≡ cond (a && b) (record { 0 = n } ∷ js) js
  kept_if all n true true is js at rest =
      ap (λ (t : Bool). cond t (record { 0 = n } ∷ those_of one all is) (those_of one all is)) at ∙ ap (λ (l : List MetricId). record { 0 = n } ∷ l) rest
  kept_if all n false true is js at rest = ap (λ (t : Bool). cond t (record { 0 = n } ∷ those_of one all is) (those_of one all is)) at ∙ rest
  kept_if all n true false is js at rest = rest
  kept_if all n false false is js at rest = rest

  kept_from : (front metrics : List Metric) (n : ℕ) → n ≡ length front → those_of one (front ++ metrics) (ids_from other n metrics) ≡ ids_from both n metrics
  kept_from front [] n e = refl
  kept_from front (m ∷ metrics) n e =
      let all : List Metric = front ++ m ∷ metrics in
      let here : option_map_or one (slice_get all n) false ≡ one m = ap (λ o. option_map_or one o false) (get_here front m metrics n e) in
      let long = length-append front (m ∷ []) in
      let later = kept_from (front ++ m ∷ []) metrics (n + 1) (omega (arith, e, long)) in
      let rest : those_of one all (ids_from other (n + 1) metrics) ≡ ids_from both (n + 1) metrics =
      subst (λ (l : List Metric). those_of one l (ids_from other (n + 1) metrics) ≡ ids_from both (n + 1) metrics) (append_assoc front (m ∷ []) metrics) later in
      kept_if all n (one m) (other m) (ids_from other (n + 1) metrics) (ids_from both (n + 1) metrics) here rest

pub kinds : (kind : Kind) (s : State) → those_of (λ metric. same_kind metric.kind kind) (metrics_of s) (names_in s) ≡ ids_not_gone kind s
kinds kind s = kept_from (λ metric. same_kind metric.kind kind) (λ metric. not (is_gone metric.life)) [] (metrics_of s) 0 refl

module _ (holds : Metric → Bool) (n : ℕ → ℕ) where
  abbrev summed : ℕ → List MetricId → ℕ
  summed id is = sum_by (delta_on id) (map (delta_by n) is)

  summed_if : (id at : ℕ) (t : Bool) (is : List MetricId) → summed id (cond t (record { 0 = at } ∷ is) is) ≡ cond t (delta_on id (delta_by n (record { 0 = at }))) 0 + summed id is
  summed_if id at true is = sum_by-cons (delta_on id) (delta_by n (record { 0 = at })) (map (delta_by n) is)
  summed_if id at false is = omega arith

  none_if : (t : Bool) (k : ℕ) → k ≡ 0 → cond t k 0 ≡ 0
  none_if true k e = e
  none_if false k e = refl

  other_delta : (id at : ℕ) → (at ≡ id → ⊥) → delta_on id (delta_by n (record { 0 = at })) ≡ 0
  other_delta id at ne = ap (λ (t : Bool). cond t (n at) 0) (number_apart at id ne)

  none_below : (id at : ℕ) (metrics : List Metric) → id < at → summed id (ids_from holds at metrics) ≡ 0
  none_below id at [] below = refl
  none_below id at (m ∷ metrics) below =
      let parts = summed_if id at (holds m) (ids_from holds (at + 1) metrics) in
      let head = none_if (holds m) (delta_on id (delta_by n (record { 0 = at }))) (other_delta id at (λ same. omega (arith, same, below))) in
      let rest = none_below id (at + 1) metrics (omega (arith, below)) in
      omega (arith, parts, head, rest)

  abbrev shown : Bool → ℕ → ℕ
  shown t id = cond t (n id) 0

  shown_at : (k id at : ℕ) (metrics : List Metric) → id ≡ at + k → summed id (ids_from holds at metrics) ≡ shown (option_map_or holds (slice_get metrics k) false) id
  shown_at k id at [] e = refl
  shown_at zero id at (m ∷ metrics) e =
      let same : at ≡ id = omega (arith, e) in
      let parts = summed_if id at (holds m) (ids_from holds (at + 1) metrics) in
      let rest = none_below id (at + 1) metrics (omega (arith, e)) in
      let head : delta_on id (delta_by n (record { 0 = at })) ≡ n id = ap (λ (t : Bool). cond t (n at) 0) (number_same at id same) ∙ ap n same in
      let first : cond (holds m) (delta_on id (delta_by n (record { 0 = at }))) 0 ≡ shown (holds m) id = ap (λ (k : ℕ). cond (holds m) k 0) head in
      omega (arith, parts, rest, first)
  shown_at (suc k) id at (m ∷ metrics) e =
      let parts = summed_if id at (holds m) (ids_from holds (at + 1) metrics) in
      let head = none_if (holds m) (delta_on id (delta_by n (record { 0 = at }))) (other_delta id at (λ same. omega (arith, e, same))) in
      let rest = shown_at k id (at + 1) metrics (omega (arith, e)) in
      omega (arith, parts, head, rest)

pub deltas : (holds : Metric → Bool) (metrics : List Metric) (n : ℕ → ℕ) (flush : FlushRecord) (id : ℕ) → flush.deltas ≡ map (delta_by n) (ids_from holds 0 metrics)
    → flushed_in id flush ≡ cond (option_map_or holds (slice_get metrics id) false) (n id) 0
deltas holds metrics n flush id are = ap (λ (l : List Delta). sum_by (delta_on id) l) are ∙ shown_at holds n id id 0 metrics (omega arith)
