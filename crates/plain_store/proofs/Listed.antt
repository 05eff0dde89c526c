-- What a flush lists of the metrics of a kind.
use Rattle.std.proofs.Common.{◌≡◌, ℕ, zero, suc, ◌+◌, ◌<◌, ◌==◌, ◌||◌, Bool, true, false, cond, Option, List, [], ◌∷◌, map, filter, length, slice_get, All, refl, ap, ◌∙◌, subst, arith}
use Rattle.std.specs.List.{range_with_len}
use Rattle.std.specs.Option.{option_map_or}
use Rattle.std.proofs.lemmas.Bool.Decides.{Decides-eqb}
use Rattle.std.proofs.lemmas.List.Elements.{All-cons, All-nil}
use Rattle.stat_defs.specs.Keys.{same_kind}
use Rattle.stat_defs.specs.declared.ids.Kind.{Kind}
use Rattle.stat_defs.specs.declared.ids.MetricId.{MetricId}
use Rattle.stat_defs.specs.declared.metrics.Metric.{Metric}
use Rattle.stat_defs.specs.declared.reports.Delta.{Delta}
use Rattle.stat_defs.specs.declared.reports.Reading.{Reading}
use Rattle.book_state.specs.State.{State, metrics_of, ids_from}
use Rattle.ledger.specs.Flushes.{ids_made, id_of_delta, id_of_reading}
use Rattle.plain_store.specs.Sums.{number_at, is_of_kind, as_id, delta_of, reading_of, is_among}

-- the metrics of a kind among all numbers
module _ (kind : Kind) (s : State) where
  made_from : (n : ℕ) (ms : List Metric) → ((k : ℕ) → slice_get (metrics_of s) (n + k) ≡ slice_get ms k)
      → filter (is_of_kind kind s) (map as_id (range_with_len n (length ms))) ≡ ids_from (λ m. same_kind m.kind kind) n ms
  made_from n [] at = refl
  made_from n (m ∷ ms) at = by_case (same_kind m.kind kind) here (made_from (n + 1) ms (λ k. ap (slice_get (metrics_of s)) (omega arith) ∙ at (suc k))) where
    here : is_of_kind kind s (as_id n) ≡ same_kind m.kind kind
    here = ap (λ (o : Option Metric). option_map_or (λ m. same_kind m.kind kind) o false) (ap (slice_get (metrics_of s)) (omega arith) ∙ at 0)

    by_case : (u : Bool) → is_of_kind kind s (as_id n) ≡ u
        → filter (is_of_kind kind s) (map as_id (range_with_len (n + 1) (length ms))) ≡ ids_from (λ m. same_kind m.kind kind) (n + 1) ms
        → filter (is_of_kind kind s) (as_id n ∷ map as_id (range_with_len (n + 1) (length ms)))
        ≡ cond u (as_id n ∷ ids_from (λ m. same_kind m.kind kind) (n + 1) ms) (ids_from (λ m. same_kind m.kind kind) (n + 1) ms)
    by_case u is rest = ap (λ (t : Bool). cond t (as_id n ∷ filter (is_of_kind kind s) (map as_id (range_with_len (n + 1) (length ms)))) (filter (is_of_kind kind s) (map as_id (range_with_len (n + 1) (length ms))))) is
        ∙ ap (λ (l : List MetricId). cond u (as_id n ∷ l) l) rest

  pub made_listed : filter (is_of_kind kind s) (map as_id (range_with_len 0 (length (metrics_of s)))) ≡ ids_made kind s
  made_listed = made_from 0 (metrics_of s) (λ k. ap (slice_get (metrics_of s)) (omega arith))

pub range_within : (n len : ℕ) → All (λ (id : MetricId). id.0 < n + len) (map as_id (range_with_len n len))
range_within n zero = All-nil (λ (id : MetricId). id.0 < n + 0)
range_within n (suc len) = All-cons (λ (id : MetricId). id.0 < n + suc len) (as_id n) (map as_id (range_with_len (n + 1) len)) (omega arith)
    (subst (λ (b : ℕ). All (λ (id : MetricId). id.0 < b) (map as_id (range_with_len (n + 1) len))) (omega arith) (range_within (n + 1) len))

-- each listed number is below the number of metrics
pub listed_within : (p : Metric → Bool) (n : ℕ) (ms : List Metric) → All (λ (id : MetricId). id.0 < n + length ms) (ids_from p n ms)
listed_within p n [] = All-nil (λ (id : MetricId). id.0 < n + 0)
listed_within p n (m ∷ ms) = by_case (p m) (subst (λ (b : ℕ). All (λ (id : MetricId). id.0 < b) (ids_from p (n + 1) ms)) (omega arith) (listed_within p (n + 1) ms)) where
  by_case : (t : Bool) → All (λ (id : MetricId). id.0 < n + suc (length ms)) (ids_from p (n + 1) ms)
      → All (λ (id : MetricId). id.0 < n + suc (length ms)) (cond t (as_id n ∷ ids_from p (n + 1) ms) (ids_from p (n + 1) ms))
  by_case true rest = All-cons (λ (id : MetricId). id.0 < n + suc (length ms)) (as_id n) (ids_from p (n + 1) ms) (omega arith) rest
  by_case false rest = rest

pub delta_ids : (words : List ℕ) (ids : List MetricId) → map id_of_delta (map (delta_of words) ids) ≡ ids
delta_ids words [] = refl
delta_ids words (id ∷ ids) = ap (λ (l : List MetricId). id ∷ l) (delta_ids words ids)

pub reading_ids : (words : List ℕ) (ids : List MetricId) → map id_of_reading (map (reading_of words) ids) ≡ ids
reading_ids words [] = refl
reading_ids words (id ∷ ids) = ap (λ (l : List MetricId). id ∷ l) (reading_ids words ids)

pub reading_words : (words : List ℕ) (W : ℕ → ℕ) → ((id : ℕ) → number_at words id ≡ W id) → (ids : List MetricId)
    → All (λ (reading : Reading). reading.word ≡ W reading.id.0) (map (reading_of words) ids)
reading_words words W are [] = All-nil (λ (reading : Reading). reading.word ≡ W reading.id.0)
reading_words words W are (id ∷ ids) = All-cons (λ (reading : Reading). reading.word ≡ W reading.id.0) (reading_of words id) (map (reading_of words) ids) (are id.0) (reading_words words W are ids)

-- the metric of this number passes
abbrev pub passes : (Metric → Bool) → List Metric → ℕ → Bool
passes p ms k = option_map_or p (slice_get ms k) false

module _ (words : List ℕ) (p : Metric → Bool) where
  abbrev shown : ℕ → List Metric → List Delta
  shown n ms = map (delta_of words) (ids_from p n ms)

  among_at : (n k : ℕ) (ms : List Metric) → passes p ms k ≡ true → is_among (shown n ms) (n + k) ≡ true
  among_at n k [] e = e
  among_at n zero (m ∷ ms) e = ap (λ (t : Bool). is_among (map (delta_of words) (cond t (as_id n ∷ ids_from p (n + 1) ms) (ids_from p (n + 1) ms))) (n + 0)) e
      ∙ ap (λ (t : Bool). t || is_among (shown (n + 1) ms) (n + 0)) ((Decides-eqb n (n + 0)).1 (omega arith))
  among_at n (suc k) (m ∷ ms) e = by_case (p m) (subst (λ (id : ℕ). is_among (shown (n + 1) ms) id ≡ true) (omega arith) (among_at (n + 1) k ms e)) where
    or_later : (t u : Bool) → u ≡ true → (t || u) ≡ true
    or_later true u is = refl
    or_later false u is = is

    by_case : (t : Bool) → is_among (shown (n + 1) ms) (n + suc k) ≡ true → is_among (map (delta_of words) (cond t (as_id n ∷ ids_from p (n + 1) ms) (ids_from p (n + 1) ms))) (n + suc k) ≡ true
    by_case true rest = or_later (n == (n + suc k)) (is_among (shown (n + 1) ms) (n + suc k)) rest
    by_case false rest = rest

  pub listed_among : (id : ℕ) (ms : List Metric) → passes p ms id ≡ true → is_among (shown 0 ms) id ≡ true
  listed_among id ms e = subst (λ (k : ℕ). is_among (shown 0 ms) k ≡ true) (omega arith) (among_at 0 id ms e)
