-- A loop that adds the counts of one table to another one.
use Rattle.std.proofs.Common.{◌≡◌, ℕ, ◌+◌, ◌<◌, ◌≤◌, List, ◌∷◌, length, get_or, set, drop, refl, sym, ap, ◌∙◌, arith, add-one, inl, inr}
use Rattle.std.specs.List.{sum}
use Rattle.std.proofs.lemmas.Bool.{cases_lt}
use Rattle.std.proofs.lemmas.List.{length-set, set-get_or, get_or_default}
use Rattle.std.proofs.lemmas.List.Sums.{sum_by-set, sum_by-drop_more, get_or-le-sum_by}
use Rattle.stat_defs.specs.declared.bins.BinCount.{BinCount}
use Rattle.loglinear_bins.specs.declared.place.TheConstants.{BIN_COUNT, MAX_COUNT}
use Rattle.loglinear_bins.specs.Counts.{merged, added}
use Rattle.loglinear_bins.specs.Table.{bin_at, listed, IsTable, IsOccupied}
use Rattle.loglinear_bins.proofs.Occupied.{listed-first, sum-first, listed-past, sum-past}
use Rattle.loglinear_bins.proofs.Tables.{listed-drop-none, listed-drop-some, listed-added-at}

-- the table so far, with the places of the other one that are still to come, has all values of both
pub record Merges (others : List ℕ) (place : ℕ) (mine : List ℕ) (all : ℕ) (before : List BinCount) : Type 0 where
  pub within : length mine ≤ BIN_COUNT
  pub counted : sum mine + sum (drop place others) ≡ all
  pub few : all ≤ MAX_COUNT
  pub same : merged (listed 0 mine) (listed place (drop place others)) ≡ merged before (listed 0 others)

pub merges_start : (others mine : List ℕ) (m n first past : ℕ) → IsTable mine m → IsTable others n → IsOccupied others first past → m + n ≤ MAX_COUNT → Merges others first mine (m + n) (listed 0 mine)
merges_start others mine m n first past one other part few = record {
  within = one.within;
  counted = omega (arith, one.counted, other.counted, sum-first others first part.below);
  few = few;
  same = ap (merged (listed 0 mine)) (listed-first others first part.below);
}

merged_step : (others mine : List ℕ) (place here : ℕ) → place < length others → place < length mine → here ≡ get_or mine place here → merged (listed 0 (set mine place (here + get_or others place 0))) (listed (place + 1) (drop (place + 1) others)) ≡ merged (listed 0 mine) (listed place (drop place others))
merged_step others mine place here short mine_short is = elim (cases_lt 0 (get_or others place 0)) [
  | inl some ↦ some_more others mine place here (get_or others place 0) short mine_short is refl some
  | inr few ↦
      let none : get_or others place 0 ≡ 0 = omega arith in
      let kept : here + get_or others place 0 ≡ get_or mine place here = omega arith in
      rw (add-one, kept, set-get_or mine place here) (ap (merged (listed 0 mine)) (sym (listed-drop-none place others short none)))
]
  where
    added_some : (counts : List BinCount) (place n : ℕ) (rest : List BinCount) → 0 < n → merged (added counts (bin_at place) n) rest ≡ merged counts ((record { bin = bin_at place; count = n }) ∷ rest)
    added_some counts place n rest some = refl

    some_more : (others mine : List ℕ) (place here n : ℕ) → place < length others → place < length mine → here ≡ get_or mine place here → n ≡ get_or others place 0 → 0 < n → merged (listed 0 (set mine place (here + n))) (listed (place + 1) (drop (place + 1) others)) ≡ merged (listed 0 mine) (listed place (drop place others))
    some_more others mine place here n short mine_short is at some =
        rw (add-one, listed-added-at mine place here n mine_short is, listed-drop-some place others short (omega arith)) (rw (← at) refl)

pub merges_step : (others mine : List ℕ) (place here all : ℕ) (before : List BinCount) → place < length others → place < length mine → here ≡ get_or mine place here → Merges others place mine all before → Merges others (place + 1) (set mine place (here + get_or others place 0)) all before
merges_step others mine place here all before short mine_short is m = record {
  within = omega (arith, length-set mine place (here + get_or others place 0), m.within);
  counted = omega (arith, m.counted, sum_by-set (λ n. n) mine place (here + get_or others place 0) here mine_short, sum_by-drop_more (λ n. n) others place 0 short);
  few = m.few;
  same = merged_step others mine place here short mine_short is ∙ m.same;
}

-- no sum is above the number of all values
pub merges_room : (others mine : List ℕ) (place here all : ℕ) (before : List BinCount) → place < length others → place < length mine → here ≡ get_or mine place here → Merges others place mine all before → here + get_or others place 0 ≤ all
merges_room others mine place here all before short mine_short is m =
    omega (arith, m.counted, get_or-le-sum_by (λ n. n) mine place here mine_short, sum_by-drop_more (λ n. n) others place 0 short)

pub merges_table : (others mine : List ℕ) (first past place all : ℕ) (before : List BinCount) → past ≤ place → IsOccupied others first past → Merges others place mine all before → IsTable mine all
merges_table others mine first past place all before end part m =
    let rest : sum (drop place others) ≡ 0 = sum-past others place (λ k later. part.above k (omega (arith, end, later))) in
    record { within = m.within; counted = omega (arith, m.counted, rest); limit = m.few }

pub merges_end : (others mine : List ℕ) (first past place all : ℕ) (before : List BinCount) → past ≤ place → IsOccupied others first past → Merges others place mine all before → listed 0 mine ≡ merged before (listed 0 others)
merges_end others mine first past place all before end part m =
    sym (ap (merged (listed 0 mine)) (listed-past others place (λ k later. part.above k (omega (arith, end, later))))) ∙ m.same

-- a count that is read is that of its place
pub same_read : (ns : List ℕ) (place here : ℕ) → place < length ns → here ≡ get_or ns place here → here ≡ get_or ns place 0
same_read ns place here short is = is ∙ get_or_default ns place here 0 short
