-- The word of a metric in readings of which each number has one.
use Rattle.std.proofs.Common.{◌≡◌, ◌+◌, ◌≤◌, ℕ, zero, suc, cond, Bool, true, false, Some, List, [], ◌∷◌, map, slice_get, refl, ap, sym, ◌∙◌, subst, arith, inl, inr}
use Rattle.std.specs.Prelude.{sum_by}
use Rattle.std.specs.List.{AllByRecursion}
use Rattle.std.proofs.lemmas.Bool.Decides.{eqb_tells}
use Rattle.std.proofs.lemmas.List.Sums.{sum_by-cons}
use Rattle.stat_defs.specs.declared.ids.MetricId.{MetricId}
use Rattle.stat_defs.specs.declared.metrics.Metric.{Metric}
use Rattle.stat_defs.specs.declared.reports.Reading.{Reading}
use Rattle.book_state.specs.State.{ids_from}
use Rattle.book_state.proofs.Lists.{not_some, some_same}
use Rattle.ledger.specs.Flushes.{id_of_reading}
use Rattle.ledger.specs.Readings.{word_on}
use Rattle.all_accepted.proofs.InLists.{In, Once}
use Rattle.same_output.proofs.Rows.{map_twice}

abbrev pub number : MetricId → ℕ
number id = id.0

module _ (holds : Metric → Bool) where
  abbrev numbers : ℕ → List Metric → List ℕ
  numbers n metrics = map number (ids_from holds n metrics)

  not_below : (n k : ℕ) (metrics : List Metric) → In (numbers n metrics) k → n ≤ k
  not_below n k [] is = absurd is
  not_below n k (m ∷ metrics) is = by_case (holds m) is (not_below (n + 1) k metrics) where
    by_case : (t : Bool) → In (map number (cond t (record { 0 = n } ∷ ids_from holds (n + 1) metrics) (ids_from holds (n + 1) metrics))) k → (In (numbers (n + 1) metrics) k → n + 1 ≤ k) → n ≤ k
    by_case true (inl here) rest = omega (arith, here)
    by_case true (inr there) rest = let more = rest there in omega (arith, more)
    by_case false there rest = let more = rest there in omega (arith, more)

  pub numbers_once : (n : ℕ) (metrics : List Metric) → Once (map number (ids_from holds n metrics))
  numbers_once n [] = tt
  numbers_once n (m ∷ metrics) = by_case (holds m) (numbers_once (n + 1) metrics) where
    by_case : (t : Bool) → Once (numbers (n + 1) metrics) → Once (map number (cond t (record { 0 = n } ∷ ids_from holds (n + 1) metrics) (ids_from holds (n + 1) metrics)))
    by_case true rest = ((λ is. let more = not_below (n + 1) n metrics is in omega (arith, more)), rest)
    by_case false rest = rest

  pub number_in : (n j k : ℕ) (metrics : List Metric) (m : Metric) → k ≡ n + j → slice_get metrics j ≡ Some m → holds m ≡ true → In (map number (ids_from holds n metrics)) k
  number_in n j k [] m at there is = absurd (not_some m there)
  number_in n zero k (x ∷ metrics) m at there is =
      subst (λ (t : Bool). In (map number (cond t (record { 0 = n } ∷ ids_from holds (n + 1) metrics) (ids_from holds (n + 1) metrics))) k)
      (sym (ap holds (some_same x m there) ∙ is)) (inl (omega (arith, at)))
  number_in n (suc j) k (x ∷ metrics) m at there is = by_case (holds x) (number_in (n + 1) j k metrics m (omega (arith, at)) there is) where
    by_case : (t : Bool) → In (numbers (n + 1) metrics) k → In (map number (cond t (record { 0 = n } ∷ ids_from holds (n + 1) metrics) (ids_from holds (n + 1) metrics))) k
    by_case true rest = inr rest
    by_case false rest = rest

module _ (id : ℕ) where
  abbrev at_reading : Reading → ℕ
  at_reading r = r.id.0

  none_read : (rs : List Reading) → (In (map at_reading rs) id → ⊥) → sum_by (word_on id) rs ≡ 0
  none_read [] none = refl
  none_read (r ∷ rs) none = elim (eqb_tells r.id.0 id) [
    | inl h ↦ absurd (none (inl h.1))
    | inr h ↦
        let head : word_on id r ≡ 0 = ap (λ (b : Bool). cond b r.word 0) h.0 in
        let rest = none_read rs (λ is. none (inr is)) in
        let whole = sum_by-cons (word_on id) r rs in
        omega (arith, head, rest, whole)
  ]

  read_sum : (word : ℕ) (rs : List Reading) → Once (map at_reading rs) → In (map at_reading rs) id → AllByRecursion (λ (r : Reading). r.id.0 ≡ id → r.word ≡ word) rs → sum_by (word_on id) rs ≡ word
  read_sum word [] once is all = absurd is
  read_sum word (r ∷ rs) once is all = elim (eqb_tells r.id.0 id) [
    | inl h ↦
        let head : word_on id r ≡ word = ap (λ (b : Bool). cond b r.word 0) h.0 ∙ all.0 h.1 in
        let rest = none_read rs (λ there. once.0 (subst (λ (k : ℕ). In (map at_reading rs) k) (sym h.1) there)) in
        let whole = sum_by-cons (word_on id) r rs in
        omega (arith, head, rest, whole)
    | inr h ↦
        let head : word_on id r ≡ 0 = ap (λ (b : Bool). cond b r.word 0) h.0 in
        let rest = read_sum word rs once.1 (in_tail h.1 is) all.1 in
        let whole = sum_by-cons (word_on id) r rs in
        omega (arith, head, rest, whole)
  ] where
    in_tail : (r.id.0 ≡ id → ⊥) → In (r.id.0 ∷ map at_reading rs) id → In (map at_reading rs) id
    in_tail other (inl here) = absurd (other here)
    in_tail other (inr there) = there

  -- the readings are of these metrics
  pub word_read : (holds : Metric → Bool) (metrics : List Metric) (m : Metric) (word : ℕ) (rs : List Reading) → map id_of_reading rs ≡ ids_from holds 0 metrics → slice_get metrics id ≡ Some m → holds m ≡ true
      → AllByRecursion (λ (r : Reading). r.id.0 ≡ id → r.word ≡ word) rs → sum_by (word_on id) rs ≡ word
  word_read holds metrics m word rs are there is all =
      let same : map at_reading rs ≡ map number (ids_from holds 0 metrics) = map_twice id_of_reading number rs ∙ ap (λ (ids : List MetricId). map number ids) are in
      read_sum word rs (subst (λ (l : List ℕ). Once l) (sym same) (numbers_once holds 0 metrics))
      (subst (λ (l : List ℕ). In l id) (sym same) (number_in holds 0 id id metrics m (omega arith) there is)) all
