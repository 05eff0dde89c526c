-- What sums and histograms by number come to.
use Rattle.std.proofs.Common.{◌≡◌, ℕ, ◌+◌, ◌-◌, ◌^◌, ◌<◌, ◌≤◌, ◌==◌, ◌||◌, min, cond, Bool, true, false, Some, None, List, [], ◌∷◌, map, fold, filter, length, get_or, set, refl, ap, sym, ◌∙◌, subst, arith, inl, inr}
use Rattle.std.specs.Prelude.{sum_by, is_some}
use Rattle.std.specs.List.{list_any, AllByRecursion}
use Rattle.std.proofs.lemmas.Bool.Decides.{eqb_tells, leb_tells}
use Rattle.std.proofs.lemmas.List.{length-set, get_or-set_same, get_or-set_other, set_past}
use Rattle.std.proofs.lemmas.List.Sums.{sum_by-cons}
use Rattle.stat_defs.specs.declared.bins.BinCount.{BinCount}
use Rattle.stat_defs.specs.declared.reports.Delta.{Delta}
use Rattle.stat_defs.specs.declared.reports.Part.{Part}
use Rattle.stat_defs.specs.declared.reports.Reading.{Reading}
use Rattle.loglinear_bins.specs.declared.place.TheConstants.{MAX_COUNT}
use Rattle.loglinear_bins.specs.Counts.{AreLawful, merged, total}
use Rattle.loglinear_bins.proofs.Adding.{total-merged}
use Rattle.merge_round.specs.Slots.{Slots, held, bins_at, is_warm_at}
use Rattle.ledger.specs.Flushes.{delta_on}
use Rattle.ledger.specs.Readings.{word_on}
use Rattle.ledger.proofs.Lists.{number_same}
use Rattle.flush_view.specs.Views.{is_part_on}
use Rattle.flush_view.specs.Sums.{with_deltas, with_readings, with_part, with_parts, HasRoomForAll}

module _ {X : Type 0} (top : ℕ) (id_of n_of : X → ℕ) where
  abbrev adding : List ℕ → X → List ℕ
  adding sums x = set sums (id_of x) (min (get_or sums (id_of x) 0 + n_of x) top)

  abbrev on : ℕ → X → ℕ
  on id x = cond (id_of x == id) (n_of x) 0

  length-adding : (sums : List ℕ) (xs : List X) → length (fold adding sums xs) ≡ length sums
  length-adding sums [] = refl
  length-adding sums (x ∷ xs) =
      length-adding (adding sums x) xs ∙ length-set sums (id_of x) (min (get_or sums (id_of x) 0 + n_of x) top)

  one_added : (sums : List ℕ) (x : X) (id : ℕ) → id < length sums → get_or sums id 0 ≤ top
      → get_or (adding sums x) id 0 ≡ min (get_or sums id 0 + on id x) top
  one_added sums x id within small = elim (eqb_tells (id_of x) id) [
    | inl h ↦
        let here : on id x ≡ n_of x = ap (λ b. cond b (n_of x) 0) h.0 in
        let now : get_or (set sums id (min (get_or sums id 0 + n_of x) top)) id 0 ≡ min (get_or sums id 0 + n_of x) top
        = get_or-set_same sums id (min (get_or sums id 0 + n_of x) top) 0 within in
        ap (λ (i : ℕ). get_or (set sums i (min (get_or sums i 0 + n_of x) top)) id 0) h.1 ∙ now
        ∙ ap (λ n. min (get_or sums id 0 + n) top) (sym here)
    | inr h ↦
        let none : on id x ≡ 0 = ap (λ b. cond b (n_of x) 0) h.0 in
        let stays = get_or-set_other sums (id_of x) id (min (get_or sums (id_of x) 0 + n_of x) top) 0
        (λ e. h.1 (sym e)) in
        let least : get_or sums id 0 ≡ min (get_or sums id 0 + on id x) top = omega (arith, small, none) in
        stays ∙ least
  ]

  all_added : (sums : List ℕ) (xs : List X) (id : ℕ) → id < length sums → get_or sums id 0 ≤ top
      → get_or (fold adding sums xs) id 0 ≡ min (get_or sums id 0 + sum_by (on id) xs) top
  all_added sums [] id within small = omega (arith, small)
  all_added sums (x ∷ xs) id within small =
      let one = one_added sums x id within small in
      let long = length-set sums (id_of x) (min (get_or sums (id_of x) 0 + n_of x) top) in
      let rest = all_added (adding sums x) xs id (omega (arith, within, long)) (omega (arith, one)) in
      let whole = sum_by-cons (on id) x xs in
      omega (arith, one, rest, whole)

pub length-with_deltas : (sums : List ℕ) (deltas : List Delta) → length (with_deltas sums deltas) ≡ length sums
length-with_deltas sums deltas =
    length-adding (2 ^ 64 - 1) (λ (delta : Delta). delta.id.0) (λ delta. delta.n) sums deltas

pub deltas_at : (sums : List ℕ) (deltas : List Delta) (id : ℕ) → id < length sums → get_or sums id 0 ≤ 2 ^ 64 - 1
    → get_or (with_deltas sums deltas) id 0 ≡ min (get_or sums id 0 + sum_by (delta_on id) deltas) (2 ^ 64 - 1)
deltas_at sums deltas id within small =
    all_added (2 ^ 64 - 1) (λ (delta : Delta). delta.id.0) (λ delta. delta.n) sums deltas id within small

pub readings_at : (sums : List ℕ) (readings : List Reading) (id : ℕ) → id < length sums → get_or sums id 0 ≤ 2 ^ 64 - 1
    → get_or (with_readings sums readings) id 0 ≡ min (get_or sums id 0 + sum_by (word_on id) readings) (2 ^ 64 - 1)
readings_at sums readings id within small =
    all_added (2 ^ 64 - 1) (λ (reading : Reading). reading.id.0) (λ reading. reading.word) sums readings id within small

-- the bins of these parts, behind others
abbrev pub behind : List BinCount → List Part → List BinCount
behind bins parts = fold merged bins (map (λ part. part.bins) parts)

pub length-with_parts : (slots : Slots) (parts : List Part) → length (with_parts slots parts) ≡ length slots
length-with_parts slots [] = refl
length-with_parts slots (part ∷ parts) =
    length-with_parts (with_part slots part) parts
    ∙ length-set slots part.id.0 (Some (merged (bins_at slots part.id.0) part.bins))

-- what a part adds to a histogram
abbrev joined_on : ℕ → Part → List BinCount → List BinCount
joined_on id part bins = cond (part.id.0 == id) (merged bins part.bins) bins

bins_with : (slots : Slots) (part : Part) (id : ℕ) → id < length slots
    → (bins_at (with_part slots part) id ≡ joined_on id part (bins_at slots id))
    × (is_warm_at (with_part slots part) id ≡ (is_part_on id part || is_warm_at slots id))
bins_with slots part id within = elim (eqb_tells part.id.0 id) [
  | inl h ↦
      let now : get_or (with_part slots part) id None ≡ Some (merged (bins_at slots id) part.bins) =
      ap (λ (i : ℕ). get_or (set slots i (Some (merged (bins_at slots i) part.bins))) id None) h.1
      ∙ get_or-set_same slots id (Some (merged (bins_at slots id) part.bins)) None within in (
        ap held now ∙ ap (λ b. cond b (merged (bins_at slots id) part.bins) (bins_at slots id)) (sym h.0),
        ap is_some now ∙ ap (λ b. b || is_warm_at slots id) (sym h.0),
      )
  | inr h ↦
      let stays = get_or-set_other slots part.id.0 id (Some (merged (bins_at slots part.id.0) part.bins)) None
      (λ e. h.1 (sym e)) in (
        ap held stays ∙ ap (λ b. cond b (merged (bins_at slots id) part.bins) (bins_at slots id)) (sym h.0),
        ap is_some stays ∙ ap (λ b. b || is_warm_at slots id) (sym h.0),
      )
]

behind_cons : (id : ℕ) (part : Part) (parts : List Part) (bins : List BinCount)
    → behind (joined_on id part bins) (filter (is_part_on id) parts)
    ≡ behind bins (filter (is_part_on id) (part ∷ parts))
behind_cons id part parts bins = by_case (part.id.0 == id) where
  by_case : (b : Bool) → behind (cond b (merged bins part.bins) bins) (filter (is_part_on id) parts)
      ≡ behind bins (cond b (part ∷ filter (is_part_on id) parts) (filter (is_part_on id) parts))
  by_case true = refl
  by_case false = refl

pub parts_at : (slots : Slots) (parts : List Part) (id : ℕ) → id < length slots
    → bins_at (with_parts slots parts) id ≡ behind (bins_at slots id) (filter (is_part_on id) parts)
parts_at slots [] id within = refl
parts_at slots (part ∷ parts) id within =
    let long = length-set slots part.id.0 (Some (merged (bins_at slots part.id.0) part.bins)) in
    parts_at (with_part slots part) parts id (omega (arith, within, long))
    ∙ ap (λ (bins : List BinCount). behind bins (filter (is_part_on id) parts)) (bins_with slots part id within).0
    ∙ behind_cons id part parts (bins_at slots id)

or_turned : (a b c : Bool) → (a || (b || c)) ≡ ((b || a) || c)
or_turned true true c = refl
or_turned true false c = refl
or_turned false true c = refl
or_turned false false c = refl

pub warm_at : (slots : Slots) (parts : List Part) (id : ℕ) → id < length slots
    → is_warm_at (with_parts slots parts) id ≡ (is_warm_at slots id || list_any (is_part_on id) parts)
warm_at slots [] id within = or_none (is_warm_at slots id) where
  or_none : (b : Bool) → b ≡ (b || false)
  or_none true = refl
  or_none false = refl
warm_at slots (part ∷ parts) id within =
    let long = length-set slots part.id.0 (Some (merged (bins_at slots part.id.0) part.bins)) in
    warm_at (with_part slots part) parts id (omega (arith, within, long))
    ∙ ap (λ b. b || list_any (is_part_on id) parts) (bins_with slots part id within).1
    ∙ sym (or_turned (is_warm_at slots id) (is_part_on id part) (list_any (is_part_on id) parts))

-- how many values these parts have of a histogram
abbrev pub values_in : ℕ → List Part → ℕ
values_in id parts = sum_by (λ (part : Part). total part.bins) (filter (is_part_on id) parts)

values_cons : (id : ℕ) (part : Part) (parts : List Part)
    → values_in id (part ∷ parts) ≡ cond (part.id.0 == id) (total part.bins) 0 + values_in id parts
values_cons id part parts = by_case (part.id.0 == id) where
  by_case : (b : Bool)
      → sum_by (λ (p : Part). total p.bins)
      (cond b (part ∷ filter (is_part_on id) parts) (filter (is_part_on id) parts))
      ≡ cond b (total part.bins) 0 + values_in id parts
  by_case true = sum_by-cons (λ (p : Part). total p.bins) part (filter (is_part_on id) parts)
  by_case false = omega arith

-- all values of each histogram can be counted with those of the parts
pub record IsRoomy (slots : Slots) (parts : List Part) : Type 0 where
  pub few : (id : ℕ) → total (bins_at slots id) + values_in id parts ≤ MAX_COUNT

one_fewer : (slots : Slots) (part : Part) (parts : List Part) → IsRoomy slots (part ∷ parts)
    → IsRoomy (with_part slots part) parts
one_fewer slots part parts roomy = record {
  few = λ id.
      let whole = values_cons id part parts in
      let few = roomy.few id in
      at id (λ (bins : List BinCount). total bins + values_in id parts ≤ MAX_COUNT)
      (omega (arith, whole, few)) (λ same.
      let head : cond (part.id.0 == id) (total part.bins) 0
      ≡ total part.bins =
      ap (λ b. cond b (total part.bins) 0)
      (elim (eqb_tells part.id.0 id) [ inl h ↦ h.0 | inr h ↦ absurd (h.1 same) ]) in
      let more = total-merged (bins_at slots id) part.bins in
      omega (arith, whole, few, head, more));
} where
  -- what is at a place is the merge, or what was there
  at : (id : ℕ) (P : List BinCount → Type 0) → P (bins_at slots id)
      → (part.id.0 ≡ id → P (merged (bins_at slots id) part.bins))
      → P (bins_at (with_part slots part) id)
  at id P was more = elim (eqb_tells part.id.0 id) [
    | inr h ↦ subst P
        (sym (ap held
        (get_or-set_other slots part.id.0 id (Some (merged (bins_at slots part.id.0) part.bins)) None
        (λ e. h.1 (sym e))))) was
    | inl h ↦ elim (leb_tells (length slots) id) [
      | inl g ↦ subst P
          (sym (ap (λ (s : Slots). bins_at s id)
          (set_past slots part.id.0 (Some (merged (bins_at slots part.id.0) part.bins))
          (let same = h.1 in let past = g.1 in omega (arith, same, past))))) was
      | inr g ↦ subst P
          (sym ((bins_with slots part id g.1).0
          ∙ ap (λ b. cond b (merged (bins_at slots id) part.bins) (bins_at slots id)) h.0)) (more h.1)
    ]
  ]

pub room_for_all : (slots : Slots) (parts : List Part) → AllByRecursion (λ part. AreLawful part.bins) parts
    → IsRoomy slots parts
    → HasRoomForAll slots parts
room_for_all slots [] lawful roomy = tt
room_for_all slots (part ∷ parts) lawful roomy =
    let few = roomy.few part.id.0 in
    let whole = values_cons part.id.0 part parts in
    let head : cond (part.id.0 == part.id.0) (total part.bins) 0
    ≡ total part.bins = ap (λ b. cond b (total part.bins) 0) (number_same part.id.0 part.id.0 refl) in (
      record { lawful = lawful.0; few = omega (arith, few, whole, head) },
      room_for_all (with_part slots part) parts lawful.1 (one_fewer slots part parts roomy),
    )
