-- Loops over the places of a table.
use Rattle.std.proofs.Common.{◌≡◌, ◌≢◌, Some, None, ℕ, suc, ◌+◌, ◌*◌, ◌<◌, ◌≤◌, ◌-◌, ◌/◌, List, [], ◌∷◌, ◌++◌, append_assoc, length, get_or, drop, refl, sym, ap, ◌∙◌, arith, add-one, cond, leb, Bool, true, false, inl, inr}
use Rattle.std.specs.Prelude.{sum_by}
use Rattle.std.proofs.Math.ListN.{drop_of_length-le}
use Rattle.std.proofs.lemmas.Bool.{cases_lt, eq-eqb, ne_eqb, le-leb, lt-leb}
use Rattle.std.proofs.lemmas.List.Sums.{sum_by-cons, sum_by-le-sum_by}
use Rattle.stat_defs.specs.declared.bins.Bin.{Bin}
use Rattle.stat_defs.specs.declared.bins.BinCount.{BinCount}
use Rattle.loglinear_bins.specs.declared.place.TheConstants.{BIN_COUNT, MAX_COUNT}
use Rattle.loglinear_bins.specs.Counts.{total, count_at_most, value_at, rank, quantile_of}
use Rattle.loglinear_bins.specs.Bins.{low_thousandths, width_thousandths, largest_whole, mark_twentieths}
use Rattle.loglinear_bins.specs.Table.{bin_at, listed, IsTable}
use Rattle.loglinear_bins.proofs.Tables.{listed-drop-none, listed-drop-some, listed-nil, total-view}

-- the counts that a loop goes over are those that contracts see
pub record Shows (ns : List ℕ) (counts : List BinCount) : Type 0 where
  pub view : listed 0 ns ≡ counts
  pub within : length ns ≤ BIN_COUNT
  pub few : total counts ≤ MAX_COUNT

pub shown : (ns : List ℕ) (n : ℕ) (counts : List BinCount) → listed 0 ns ≡ counts → IsTable ns n → Shows ns counts
shown ns n counts view table = record { view = view; within = table.within; few = omega (arith, total-view ns n counts view table, table.limit) }

-- a sum over the places from this one on is that of this place and those after it
pub sum-listed-drop : (f : BinCount → ℕ) → ((bin : Bin) → f (record { bin = bin; count = 0 }) ≡ 0) → (i : ℕ) (ns : List ℕ) → i < length ns → sum_by f (listed i (drop i ns)) ≡ f (record { bin = bin_at i; count = get_or ns i 0 }) + sum_by f (listed (suc i) (drop (suc i) ns))
sum-listed-drop f empty i ns short = elim (cases_lt 0 (get_or ns i 0)) [
  | inl some ↦ ap (sum_by f) (listed-drop-some i ns short some) ∙ sum_by-cons f (record { bin = bin_at i; count = get_or ns i 0 }) (listed (suc i) (drop (suc i) ns))
  | inr few ↦
      let none : get_or ns i 0 ≡ 0 = omega arith in
      let nothing : f (record { bin = bin_at i; count = get_or ns i 0 }) ≡ 0 = ap (λ n. f (record { bin = bin_at i; count = n })) none ∙ empty (bin_at i) in
      ap (sum_by f) (listed-drop-none i ns short none) ∙ omega arith
]

-- nothing is left after the last place
sum-listed-end : (f : BinCount → ℕ) (i : ℕ) (ns : List ℕ) → length ns ≤ i → sum_by f (listed i (drop i ns)) ≡ 0
sum-listed-end f i ns past = rw (drop_of_length-le ns past) (ap (sum_by f) (listed-nil i))

-- a loop that adds each place's share, at its start, at a step, before the step's end, and at its end
pub sum_start : (f : BinCount → ℕ) (ns : List ℕ) (counts : List BinCount) → listed 0 ns ≡ counts → 0 + sum_by f (listed 0 ns) ≡ sum_by f counts
sum_start f ns counts view = let same : sum_by f (listed 0 ns) ≡ sum_by f counts = ap (sum_by f) view in omega arith

pub sum_step : (f : BinCount → ℕ) → ((bin : Bin) → f (record { bin = bin; count = 0 }) ≡ 0) → (i s whole : ℕ) (ns : List ℕ) → i < length ns → s + sum_by f (listed i (drop i ns)) ≡ whole → s + f (record { bin = bin_at i; count = get_or ns i 0 }) + sum_by f (listed (i + 1) (drop (i + 1) ns)) ≡ whole
sum_step f empty i s whole ns short before = rw add-one (omega (arith, sum-listed-drop f empty i ns short))

pub sum_within : (f : BinCount → ℕ) → ((bin : Bin) → f (record { bin = bin; count = 0 }) ≡ 0) → (i s whole : ℕ) (ns : List ℕ) → i < length ns → s + sum_by f (listed i (drop i ns)) ≡ whole → s + f (record { bin = bin_at i; count = get_or ns i 0 }) ≤ whole
sum_within f empty i s whole ns short before = omega (arith, sum-listed-drop f empty i ns short)

pub sum_end : (f : BinCount → ℕ) (i s whole : ℕ) (ns : List ℕ) → length ns ≤ i → s + sum_by f (listed i (drop i ns)) ≡ whole → s ≡ whole
sum_end f i s whole ns past before = omega (arith, sum-listed-end f i ns past)

-- the share of a place in a count at a bound, which is none where its count is 0
abbrev pub share_at : ℕ → BinCount → ℕ
share_at halves c = cond (leb (2 * largest_whole c.bin) halves) c.count 0

cond-zero : (b : Bool) → ◌≡◌ {A = ℕ} (cond b 0 0) 0
cond-zero true = refl
cond-zero false = refl

pub share_at-empty : (halves : ℕ) (bin : Bin) → share_at halves (record { bin = bin; count = 0 }) ≡ 0
share_at-empty halves bin = cond-zero (leb (2 * largest_whole bin) halves)

cond-le : (b : Bool) (n : ℕ) → cond b n 0 ≤ n
cond-le true n = omega arith
cond-le false n = omega arith

pub count_at_most-le : (halves : ℕ) (counts : List BinCount) → count_at_most counts halves ≤ total counts
count_at_most-le halves counts = sum_by-le-sum_by (share_at halves) (λ c. c.count) counts (λ c. cond-le (leb (2 * largest_whole c.bin) halves) c.count)

-- the share of a place in twenty times the sum
abbrev pub mark_of : BinCount → ℕ
mark_of c = c.count * mark_twentieths c.bin

pub mark_of-empty : (bin : Bin) → mark_of (record { bin = bin; count = 0 }) ≡ 0
mark_of-empty bin = omega arith

-- the value of a rank in the place that holds it
pub value_at-here : (i t : ℕ) (ns : List ℕ) → i < length ns → 0 < get_or ns i 0 → t ≤ get_or ns i 0 → value_at (listed i (drop i ns)) t ≡ low_thousandths (bin_at i) + width_thousandths (bin_at i) * t / get_or ns i 0
value_at-here i t ns short some here = rw (listed-drop-some i ns short some, le-leb _ _ here) refl

-- and in the places after it
pub value_at-later : (i t : ℕ) (ns : List ℕ) → i < length ns → 0 < get_or ns i 0 → get_or ns i 0 < t → value_at (listed i (drop i ns)) t ≡ value_at (listed (i + 1) (drop (i + 1) ns)) (t - get_or ns i 0)
value_at-later i t ns short some past = rw (add-one, listed-drop-some i ns short some, lt-leb _ _ past) refl

pub value_at-none : (i t : ℕ) (ns : List ℕ) → i < length ns → get_or ns i 0 ≡ 0 → value_at (listed i (drop i ns)) t ≡ value_at (listed (i + 1) (drop (i + 1) ns)) t
value_at-none i t ns short none = rw (add-one, listed-drop-none i ns short none) refl

pub value_at-end : (i t : ℕ) (ns : List ℕ) → length ns ≤ i → value_at (listed i (drop i ns)) t ≡ 0
value_at-end i t ns past = rw (drop_of_length-le ns past, listed-nil i) refl

-- a loop that lists the places
pub pairs_some : (before counts : List BinCount) (i : ℕ) (ns : List ℕ) → i < length ns → 0 < get_or ns i 0 → before ++ listed i (drop i ns) ≡ counts → (before ++ ((record { bin = bin_at i; count = get_or ns i 0 }) ∷ [])) ++ listed (i + 1) (drop (i + 1) ns) ≡ counts
pairs_some before counts i ns short some so = rw (add-one, append_assoc) (ap (λ cs. before ++ cs) (sym (listed-drop-some i ns short some)) ∙ so)

pub pairs_none : (before counts : List BinCount) (i : ℕ) (ns : List ℕ) → i < length ns → get_or ns i 0 ≡ 0 → before ++ listed i (drop i ns) ≡ counts → before ++ listed (i + 1) (drop (i + 1) ns) ≡ counts
pairs_none before counts i ns short none so = rw add-one (ap (λ cs. before ++ cs) (sym (listed-drop-none i ns short none)) ∙ so)

pub quantile_of-none : (counts : List BinCount) (q : ℕ) → total counts ≡ 0 → quantile_of counts q ≡ None
quantile_of-none counts q none = rw (eq-eqb (total counts) 0 none) refl

pub quantile_of-some : (counts : List BinCount) (q n : ℕ) → total counts ≡ n → n ≢ 0 → quantile_of counts q ≡ Some (value_at counts (rank q n))
quantile_of-some counts q n count some = rw (ne_eqb (total counts) 0 (λ none. some (sym count ∙ none)), count) refl
