-- The part of a table outside of which every count is 0.
use Rattle.std.proofs.Common.{◌≡◌, ℕ, suc, zero, ◌+◌, ◌-◌, ◌<◌, ◌≤◌, min, max, List, [], ◌∷◌, ◌++◌, length, get_or, set, drop, replicate, refl, sym, ap, ◌∙◌, arith, inl, inr, sum}
use Rattle.std.proofs.Math.ListN.{drop_of_length-le}
use Rattle.std.proofs.lemmas.Bool.{cases_lt}
use Rattle.std.proofs.lemmas.List.{length-append, length-replicate, length-set, get_or-set_other}
use Rattle.std.proofs.lemmas.Grind.{get_or-set_at}
use Rattle.std.proofs.lemmas.List.Sums.{sum_by-cons}
use Rattle.stat_defs.specs.declared.bins.BinCount.{BinCount}
use Rattle.loglinear_bins.specs.declared.place.TheConstants.{BIN_COUNT}
use Rattle.loglinear_bins.specs.Counts.{total}
use Rattle.loglinear_bins.specs.Table.{bin_at, listed, IsTable, IsOccupied}
use Rattle.loglinear_bins.proofs.Tables.{listed-nil, listed-drop-none, listed-filled, total-listed, total-view}

abbrev AreNoneBelow : List ℕ → ℕ → Type 0
AreNoneBelow ns first = (place : ℕ) → place < first → get_or ns place 0 ≡ 0

abbrev AreNoneFrom : List ℕ → ℕ → Type 0
AreNoneFrom ns past = (place : ℕ) → past ≤ place → get_or ns place 0 ≡ 0

-- nothing is listed, or counted, before the first place that is not empty
pub listed-first : (ns : List ℕ) (first : ℕ) → AreNoneBelow ns first → listed first (drop first ns) ≡ listed 0 ns
listed-first ns zero none = refl
listed-first ns (suc first) none =
    let before = listed-first ns first (λ place below. none place (omega (arith, below))) in
    elim (cases_lt first (length ns)) [
      | inl short ↦ sym (listed-drop-none first ns short (none first (omega arith))) ∙ before
      | inr past ↦
          ap (listed (suc first)) (drop_of_length-le ns {i = suc first} (omega (arith, past))) ∙ listed-nil (suc first)
          ∙ sym (ap (listed first) (drop_of_length-le ns {i = first} past) ∙ listed-nil first) ∙ before
    ]

pub sum-first : (ns : List ℕ) (first : ℕ) → AreNoneBelow ns first → sum (drop first ns) ≡ sum ns
sum-first ns first none =
    sym (total-listed first (drop first ns)) ∙ ap total (listed-first ns first none) ∙ total-listed 0 ns

-- nor from the place on that follows the last one
listed-past_by : (left : ℕ) (ns : List ℕ) (place : ℕ) → length ns ≤ place + left → AreNoneFrom ns place → listed place (drop place ns) ≡ []
listed-past_by zero ns place short none = ap (listed place) (drop_of_length-le ns (omega (arith, short))) ∙ listed-nil place
listed-past_by (suc left) ns place short none = elim (cases_lt place (length ns)) [
  | inl here ↦
      listed-drop-none place ns here (none place (omega arith))
      ∙ listed-past_by left ns (suc place) (omega (arith, short)) (λ k past. none k (omega (arith, past)))
  | inr past ↦ ap (listed place) (drop_of_length-le ns past) ∙ listed-nil place
]

pub listed-past : (ns : List ℕ) (place : ℕ) → AreNoneFrom ns place → listed place (drop place ns) ≡ []
listed-past ns place none = listed-past_by (length ns) ns place (omega arith) none

pub sum-past : (ns : List ℕ) (place : ℕ) → AreNoneFrom ns place → sum (drop place ns) ≡ 0
sum-past ns place none = sym (total-listed place (drop place ns)) ∙ ap total (listed-past ns place none)

-- ---- the part that a loop writes in

pub wider : (ns : List ℕ) (first past one other : ℕ) → other ≤ length ns → IsOccupied ns first past → IsOccupied ns (min first one) (max past other)
wider ns first past one other other_within is = record {
  below = λ place less. is.below place (omega (arith, less));
  above = λ place past. is.above place (omega (arith, past));
  past_within = omega (arith, is.past_within, other_within);
}

pub written : (ns : List ℕ) (first past place n : ℕ) → first ≤ place → place < past → IsOccupied ns first past → IsOccupied (set ns place n) first past
written ns first past place n low high is = record {
  below = λ k less. get_or-set_other ns place k n 0 (λ e. absurd (omega (arith, less, low, e))) ∙ is.below k less;
  above = λ k most. get_or-set_other ns place k n 0 (λ e. absurd (omega (arith, most, high, e))) ∙ is.above k most;
  past_within = omega (arith, length-set ns place n, is.past_within);
}

pub none_occupied : (ns : List ℕ) → AreNoneFrom ns 0 → IsOccupied ns BIN_COUNT 0
none_occupied ns none = record {
  below = λ place less. none place (omega arith);
  above = none;
  past_within = omega arith;
}

none_in_new : (n k : ℕ) → ◌≡◌ {A = ℕ} (get_or (replicate n 0) k 0) 0
none_in_new zero k = refl
none_in_new (suc n) zero = refl
none_in_new (suc n) (suc k) = none_in_new n k

-- ---- zeros at the end

get_or-filled : (n : ℕ) (ns : List ℕ) (k : ℕ) → get_or (ns ++ replicate n 0) k 0 ≡ get_or ns k 0
get_or-filled n [] k = none_in_new n k
get_or-filled n (m ∷ ns) zero = refl
get_or-filled n (m ∷ ns) (suc k) = get_or-filled n ns k

length-filled : (n : ℕ) (ns : List ℕ) → length (ns ++ replicate n 0) ≡ length ns + n
length-filled n ns = length-append ns (replicate n 0) ∙ ap (λ k. length ns + k) (length-replicate n 0)

pub long_enough : (len : ℕ) (ns : List ℕ) → len ≤ length (ns ++ replicate (len - length ns) 0)
long_enough len ns = omega (arith, length-filled (len - length ns) ns)

pub table_filled : (len n : ℕ) (ns : List ℕ) → len ≤ BIN_COUNT → IsTable ns n → IsTable (ns ++ replicate (len - length ns) 0) n
table_filled len n ns short table = record {
  within = omega (arith, length-filled (len - length ns) ns, table.within);
  counted =
      sym (total-listed 0 (ns ++ replicate (len - length ns) 0)) ∙ ap total (listed-filled 0 (len - length ns) ns)
      ∙ total-listed 0 ns ∙ table.counted;
  limit = table.limit;
}

pub part_filled : (len first past : ℕ) (ns : List ℕ) → IsOccupied ns first past → IsOccupied (ns ++ replicate (len - length ns) 0) first past
part_filled len first past ns part = record {
  below = λ place less. get_or-filled (len - length ns) ns place ∙ part.below place less;
  above = λ place most. get_or-filled (len - length ns) ns place ∙ part.above place most;
  past_within = omega (arith, length-filled (len - length ns) ns, part.past_within);
}

-- ---- a loop that clears the places of the part

pub record Clears (ns : List ℕ) (place past : ℕ) : Type 0 where
  pub within : length ns ≤ BIN_COUNT
  pub below : AreNoneBelow ns place
  pub above : AreNoneFrom ns past
  pub past_within : past ≤ length ns

pub clears_start : (ns : List ℕ) (first past : ℕ) → length ns ≤ BIN_COUNT → IsOccupied ns first past → Clears ns first past
clears_start ns first past within is = record { within = within; below = is.below; above = is.above; past_within = is.past_within }

pub clears_step : (ns : List ℕ) (place past : ℕ) → place < past → Clears ns place past → Clears (set ns place 0) (place + 1) past
clears_step ns place past before is = record {
  within = omega (arith, length-set ns place 0, is.within);
  below = λ k less. elim (cases_lt k place) [
    | inl earlier ↦ get_or-set_other ns place k 0 0 (λ e. absurd (omega (arith, earlier, e))) ∙ is.below k earlier
    | inr later ↦ get_or-set_at ns place k 0 0 (omega (arith, less, later)) (omega (arith, before, is.past_within))
  ];
  above = λ k most. get_or-set_other ns place k 0 0 (λ e. absurd (omega (arith, most, before, e))) ∙ is.above k most;
  past_within = omega (arith, length-set ns place 0, is.past_within);
}

all_cleared : (ns : List ℕ) (place past : ℕ) → past ≤ place → Clears ns place past → AreNoneFrom ns 0
all_cleared ns place past end is k _ = elim (cases_lt k place) [
  | inl earlier ↦ is.below k earlier
  | inr later ↦ is.above k (omega (arith, end, later))
]

pub cleared_table : (ns : List ℕ) (place past : ℕ) → past ≤ place → Clears ns place past → IsTable ns 0 × IsOccupied ns BIN_COUNT 0
cleared_table ns place past end is =
    let none = all_cleared ns place past end is in
    (record { within = is.within; counted = sum-past ns 0 none; limit = omega arith }, none_occupied ns none)

pub cleared_view : (ns : List ℕ) (place past : ℕ) → past ≤ place → Clears ns place past → listed 0 ns ≡ []
cleared_view ns place past end is = listed-past ns 0 (all_cleared ns place past end is)

-- ---- a table without values lists nothing

none-some : (c : BinCount) (cs : List BinCount) (n : ℕ) → c.count ≡ suc n → total (c ∷ cs) ≡ 0 → ⊥
none-some c cs n some none = omega (arith, sum_by-cons (λ (d : BinCount). d.count) c cs, some, none)

nothing_listed : (place : ℕ) (ns : List ℕ) → total (listed place ns) ≡ 0 → listed place ns ≡ []
unfolding listed
nothing_listed place [] none = refl
nothing_listed place (zero ∷ ns) none = nothing_listed (suc place) ns none
nothing_listed place (suc n ∷ ns) none = absurd (none-some (record { bin = bin_at place; count = suc n }) (listed (suc place) ns) n refl none)

pub empty_view : (ns : List ℕ) (n : ℕ) (counts : List BinCount) → listed 0 ns ≡ counts → IsTable ns n → n ≡ 0 → counts ≡ []
empty_view ns n counts view table none =
    sym view ∙ nothing_listed 0 ns (ap total view ∙ total-view ns n counts view table ∙ none)
