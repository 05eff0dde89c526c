-- What is known before the sweeps of the flushes of a log.
use Rattle.std.proofs.Common.{◌≡◌, ℕ, zero, suc, ◌+◌, ◌-◌, ◌≤◌, Bool, true, false, Option, Some, None, List, [], ◌∷◌, ◌++◌, map, fold, take, drop, length, slice_get, get_or, cond, refl, ap, sym, ◌∙◌, subst, arith}
use Rattle.std.specs.Prelude.{not, is_some}
use Rattle.std.specs.List.Sorted.{IsNonDecreasing}
use Rattle.std.specs.Option.{IsSomeAnd, option_map_or}
use Rattle.std.proofs.lemmas.List.{take_all}
use Rattle.stat_defs.specs.declared.history.Entry.{Entry}
use Rattle.stat_defs.specs.declared.metrics.Metric.{Metric}
use Rattle.stat_defs.specs.declared.reports.FlushRecord.{FlushRecord}
use Rattle.book_state.specs.State.{Row, State, is_gone}
use Rattle.book_state.specs.Stored.{StateView, after_entry}
use Rattle.book_state.proofs.Lists.{not_some, some_same, true_false}
use Rattle.ledger.specs.OneReport.{is_not_gone}
use Rattle.flush_view.specs.Before.{left_of, before_of, is_left, text_in, text_left}
use Rattle.flush_view.specs.Replaying.{AreNext}
use Rattle.flush_view.specs.Rows.{text_at}
use Rattle.flush_view.specs.Views.{NumberedMetric, has_not_gone, text_row}
use Rattle.flush_view.specs.Walk.{AreRising}
use Rattle.flush_view.proofs.Replayed.{next_between, applied_between}

-- one row more
next_left : (rows : List Row) (id : ℕ) (metric : Metric)
    → IsSomeAnd (slice_get rows id) (λ row. row.metric ≡ metric)
    → map (λ (row : Row). left_of row.metric) (take (suc id) rows)
    ≡ map (λ (row : Row). left_of row.metric) (take id rows) ++ left_of metric ∷ []
next_left [] id metric at = absurd at
next_left (row ∷ rows) zero metric at = ap (λ (m : Metric). left_of m ∷ []) at
next_left (row ∷ rows) (suc id) metric at =
    ap (λ (l : List (Option (List ℕ))). left_of row.metric ∷ l) (next_left rows id metric at)

-- what is known of it behind that of the others
pub one_left : (rows : List Row) (id : ℕ) (metric : Metric) (lefts more : List (Option (List ℕ)))
    (left : Option (List ℕ))
    → more ≡ lefts ++ left ∷ [] → lefts ≡ map (λ (row : Row). left_of row.metric) (take id rows)
    → left ≡ left_of metric → IsSomeAnd (slice_get rows id) (λ row. row.metric ≡ metric)
    → more ≡ map (λ (row : Row). left_of row.metric) (take (id + 1) rows)
one_left rows id metric lefts more left pushed were is at =
    let next : suc id ≡ id + 1 = omega arith in
    pushed
    ∙ (λ i. were i ++ is i ∷ [])
    ∙ sym (next_left rows id metric at)
    ∙ ap (λ (n : ℕ). map (λ (row : Row). left_of row.metric) (take n rows)) next

-- one flush more
pub mapped_next : {Y : Type 0} (f : FlushRecord → Y) (flushes : List FlushRecord) (k : ℕ) (flush : FlushRecord)
    → slice_get flushes k ≡ Some flush
    → map f (take (suc k) flushes) ≡ map f (take k flushes) ++ f flush ∷ []
mapped_next f [] k flush at = absurd (not_some flush at)
mapped_next f (first ∷ flushes) zero flush at =
    ap (λ (g : FlushRecord). f g ∷ []) (some_same first flush at)
mapped_next {Y} f (first ∷ flushes) (suc k) flush at =
    ap (λ (l : List Y). f first ∷ l) (mapped_next f flushes k flush at)

rising_from : (low from : ℕ) (flushes : List FlushRecord) → low ≤ from → AreRising from flushes
    → AreRising low flushes
rising_from low from [] below rising = tt
rising_from low from (flush ∷ flushes) below rising = let above = rising.0 in (omega (arith, below, above), rising.1)

-- the flushes behind one stand at or behind it
pub rising_next : (flushes : List FlushRecord) (k : ℕ) (from low : ℕ) (flush : FlushRecord)
    → slice_get flushes k ≡ Some flush → low ≤ flush.at → AreRising from (drop k flushes)
    → (from ≤ flush.at) × AreRising low (drop (suc k) flushes)
rising_next [] k from low flush at below rising = absurd (not_some flush at)
rising_next (first ∷ flushes) zero from low flush at below rising =
    let same = ap (λ (f : FlushRecord). f.at) (some_same first flush at) in
    let above = rising.0 in
    (omega (arith, same, above), rising_from low first.at flushes (omega (arith, same, below)) rising.1)
rising_next (first ∷ flushes) (suc k) from low flush at below rising =
    rising_next flushes k from low flush at below rising

module _ (first : StateView) (log : List Entry) (book : StateView) (from : ℕ)
    (same : book ≡ fold after_entry first (take from log)) where
  -- the entries up to a place are the next ones
  pub next_to : (to : ℕ) → AreNext first log → AreNext book (take (to - from) (drop from log))
  next_to to next =
      subst (λ (v : StateView). AreNext v (take (to - from) (drop from log))) (sym same)
      (next_between first log from (to - from) next)

  -- behind them is the book after all up to that place
  pub applied_to : (to : ℕ) → from ≤ to
      → fold after_entry book (take (to - from) (drop from log)) ≡ fold after_entry first (take to log)
  applied_to to low =
      ap (λ (v : StateView). fold after_entry v (take (to - from) (drop from log))) same
      ∙ applied_between first log from (to - from)
      ∙ ap (λ (n : ℕ). fold after_entry first (take n log)) (omega (arith, low))

  pub applied_all : from ≤ length log
      → fold after_entry book (take (length log - from) (drop from log)) ≡ fold after_entry first log
  applied_all low =
      applied_to (length log) low
      ∙ ap (λ (l : List Entry). fold after_entry first l) (take_all (length log) log (omega arith))

-- the flushes of a log rise from its begin
rises : (from : ℕ) (flushes : List FlushRecord) → from ≤ get_or (map (λ (f : FlushRecord). f.at) flushes) 0 from
    → IsNonDecreasing (map (λ (f : FlushRecord). f.at) flushes) → AreRising from flushes
rises from [] low up = tt
rises from (flush ∷ flushes) low up = (
  low,
  rises flush.at flushes (next_low flushes up) (λ i j d upto within.
      up (suc i) (suc j) d (omega (arith, upto)) (omega (arith, within))),
) where
  next_low : (more : List FlushRecord)
      → IsNonDecreasing (flush.at ∷ map (λ (f : FlushRecord). f.at) more)
      → flush.at ≤ get_or (map (λ (f : FlushRecord). f.at) more) 0 flush.at
  next_low [] up = omega arith
  next_low (next ∷ more) up = up 0 1 0 (omega arith) (omega arith)

pub all_rising : (flushes : List FlushRecord) → IsNonDecreasing (map (λ (f : FlushRecord). f.at) flushes)
    → AreRising 0 flushes
all_rising flushes up = rises 0 flushes (omega arith) up

-- what is known of a row
abbrev of_row : Row → Option (List ℕ)
of_row row = left_of row.metric

left_in : (rows : List Row) (id : ℕ)
    → is_left (map of_row rows) id ≡ option_map_or is_not_gone (slice_get rows id) false
left_in [] id = refl
left_in (row ∷ rows) zero = by_case (is_gone row.metric.life) where
  by_case : (b : Bool) → is_some (cond b None (Some row.metric.text)) ≡ not b
  by_case true = refl
  by_case false = refl
left_in (row ∷ rows) (suc id) = left_in rows id

-- it tells which metrics were not gone
pub left_same : (s : State) (id : ℕ) → is_left (before_of s) id ≡ has_not_gone s id
left_same s id = left_in s.metrics id

text_within : (rows : List Row) (id : ℕ) → is_left (map of_row rows) id ≡ true
    → text_left (map of_row rows) id ≡ option_map_or (λ (row : Row). row.metric.text) (slice_get rows id) []
text_within [] id left = refl
text_within (row ∷ rows) zero left = by_case (is_gone row.metric.life) left where
  by_case : (b : Bool) → is_some (cond b None (Some row.metric.text)) ≡ true
      → text_in (cond b None (Some row.metric.text)) ≡ row.metric.text
  by_case true left = absurd (true_false (sym left))
  by_case false left = refl
text_within (row ∷ rows) (suc id) left = text_within rows id left

-- and the texts of those
pub text_same : (s : State) (numbered : NumberedMetric) → is_left (before_of s) numbered.0 ≡ true
    → text_at (before_of s) numbered ≡ text_row s numbered
text_same s numbered left =
    λ i. record { name = numbered.1.name; text = text_within s.metrics numbered.0 left i }
