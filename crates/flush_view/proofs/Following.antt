-- What is kept when one flush more is followed, and the view that it makes.
use Rattle.std.proofs.Common.{◌≡◌, ℕ, zero, suc, ◌+◌, ◌-◌, ◌^◌, ◌<◌, ◌≤◌, ◌||◌, min, Bool, true, false, Option, Some, None, List, [], ◌∷◌, ◌++◌, take, drop, length, get_or, replicate, slice_get, append-nil, append_assoc, zero-add, ltb, lit≤, refl, ap, sym, ◌∙◌, subst, arith, inl, inr, ◌⊎◌, ℤ, pos, negsuc}
use Rattle.std.specs.Prelude.{sum_by, is_some}
use Rattle.std.specs.Int.{w64, cast_signed}
use Rattle.std.specs.List.{flat_map, list_any, AllByRecursion}
use Rattle.std.proofs.lemmas.Bool.{le-ltb}
use Rattle.std.proofs.lemmas.Bool.Decides.{leb_tells}
use Rattle.std.proofs.lemmas.List.{length-replicate, get_or_past}
use Rattle.std.proofs.lemmas.List.Sums.{sum_by-cons, sum_by-append}
use Rattle.stat_defs.specs.declared.bins.BinCount.{BinCount}
use Rattle.stat_defs.specs.declared.configs.Config.{Config}
use Rattle.stat_defs.specs.declared.reports.FlushRecord.{FlushRecord}
use Rattle.stat_defs.specs.declared.reports.Part.{Part}
use Rattle.stat_defs.specs.declared.reports.Report.{Report}
use Rattle.loglinear_bins.specs.declared.place.TheConstants.{MAX_COUNT}
use Rattle.loglinear_bins.specs.Counts.{merged, total}
use Rattle.loglinear_bins.proofs.Adding.{total-merged}
use Rattle.merge_round.specs.Slots.{Slots, held, bins_at, is_warm_at}
use Rattle.ledger.specs.Flushes.{flushed, flushed_in}
use Rattle.ledger.specs.Readings.{word_on}
use Rattle.book_state.proofs.Lists.{not_some, some_same}
use Rattle.flush_view.specs.Showing.{IsShowable, HasLawfulParts, values_taken}
use Rattle.flush_view.specs.Sums.{with_deltas, with_readings, with_parts, HasRoomForAll}
use Rattle.flush_view.specs.Views.{parts_on, merged_parts, is_part_on}
use Rattle.flush_view.proofs.ByNumber.{behind, values_in, IsRoomy, room_for_all, parts_at, warm_at, deltas_at, readings_at}

-- the flushes up to the next one
pub one_more : (flushes : List FlushRecord) (k : ℕ) (flush : FlushRecord) → slice_get flushes k ≡ Some flush
    → take (suc k) flushes ≡ take k flushes ++ flush ∷ []
one_more [] k flush at = absurd (not_some flush at)
one_more (first ∷ flushes) zero flush at = ap (λ (f : FlushRecord). f ∷ []) (some_same first flush at)
one_more (first ∷ flushes) (suc k) flush at = ap (λ (l : List FlushRecord). first ∷ l) (one_more flushes k flush at)

parted : (k : ℕ) (flushes : List FlushRecord) → take k flushes ++ drop k flushes ≡ flushes
parted zero flushes = refl
parted (suc k) [] = refl
parted (suc k) (flush ∷ flushes) = ap (λ (l : List FlushRecord). flush ∷ l) (parted k flushes)

-- a sum over the first flushes is no greater than that over all
front_sum : (f : FlushRecord → ℕ) (k : ℕ) (flushes : List FlushRecord) → sum_by f (take k flushes) ≤ sum_by f flushes
front_sum f k flushes =
    let whole = ap (λ (l : List FlushRecord). sum_by f l) (parted k flushes) in
    let parts = sum_by-append f (take k flushes) (drop k flushes) in
    omega (arith, whole, parts)

more_sum : (f : FlushRecord → ℕ) (flushes : List FlushRecord) (k : ℕ) (flush : FlushRecord)
    → slice_get flushes k ≡ Some flush
    → sum_by f (take (suc k) flushes) ≡ sum_by f (take k flushes) + f flush
more_sum f flushes k flush at =
    let whole = ap (λ (l : List FlushRecord). sum_by f l) (one_more flushes k flush at) in
    let parts = sum_by-append f (take k flushes) (flush ∷ []) in
    let one = sum_by-cons f flush [] in
    omega (arith, whole, parts, one)

abbrev values_by : ℕ → FlushRecord → ℕ
values_by id flush = values_in id flush.parts

all_values : (id : ℕ) (flushes : List FlushRecord) → values_taken id flushes ≡ sum_by (values_by id) flushes
all_values id [] = refl
all_values id (flush ∷ flushes) =
    let rest = all_values id flushes in
    let parts = sum_by-append (λ (part : Part). total part.bins) (parts_on id flush) (flat_map (parts_on id) flushes) in
    let whole = sum_by-cons (values_by id) flush flushes in
    omega (arith, rest, parts, whole)

total-behind : (bins : List BinCount) (parts : List Part)
    → total (behind bins parts) ≡ total bins + sum_by (λ (part : Part). total part.bins) parts
total-behind bins [] = omega arith
total-behind bins (part ∷ parts) =
    let rest = total-behind (merged bins part.bins) parts in
    let more = total-merged bins part.bins in
    let whole = sum_by-cons (λ (p : Part). total p.bins) part parts in
    omega (arith, rest, more, whole)

behind-append : (bins : List BinCount) (parts more : List Part)
    → behind bins (parts ++ more) ≡ behind (behind bins parts) more
behind-append bins [] more = refl
behind-append bins (part ∷ parts) more = behind-append (merged bins part.bins) parts more

flat_map-push : (id : ℕ) (flushes : List FlushRecord) (flush : FlushRecord)
    → flat_map (parts_on id) (flushes ++ flush ∷ []) ≡ flat_map (parts_on id) flushes ++ parts_on id flush
flat_map-push id [] flush = append-nil (parts_on id flush)
flat_map-push id (first ∷ flushes) flush =
    ap (λ (l : List Part). parts_on id first ++ l) (flat_map-push id flushes flush)
    ∙ sym (append_assoc (parts_on id first) (flat_map (parts_on id) flushes) (parts_on id flush))

-- the parts of a flush are lawful
lawful_at : (flushes : List FlushRecord) (k : ℕ) (flush : FlushRecord) → slice_get flushes k ≡ Some flush
    → AllByRecursion HasLawfulParts flushes → HasLawfulParts flush
lawful_at [] k flush at lawful = absurd (not_some flush at)
lawful_at (first ∷ flushes) zero flush at lawful = subst HasLawfulParts (some_same first flush at) lawful.0
lawful_at (first ∷ flushes) (suc k) flush at lawful = lawful_at flushes k flush at lawful.1

pub no_bins_at : (n id : ℕ) → ◌≡◌ {A = Option (List BinCount)} (get_or (replicate n None) id None) None
no_bins_at zero id = refl
no_bins_at (suc n) zero = refl
no_bins_at (suc n) (suc id) = no_bins_at n id

pub no_sum_at : (n id : ℕ) → ◌≡◌ {A = ℕ} (get_or (replicate n 0) id 0) 0
no_sum_at zero id = refl
no_sum_at (suc n) zero = refl
no_sum_at (suc n) (suc id) = no_sum_at n id

abbrev reads : Bool → ℤ → ℤ → ℤ
reads true x y = x
reads false x y = y

-- a number that is cut off at the greatest one has the same signed reading
cut_reading : (half top : ℕ) (s : ℕ) → half ≤ top
    → reads (ltb (min s top) half) (pos (min s top)) (negsuc (suc top - suc (min s top)))
    ≡ reads (ltb s half) (pos s) (negsuc (suc top - suc s))
cut_reading half top s high = elim (leb_tells s top) [
  | inl h ↦
      let small = h.1 in
      let same : min s top ≡ s = omega (arith, small) in
      ap (λ n. reads (ltb n half) (pos n) (negsuc (suc top - suc n))) same
  | inr h ↦
      let great = h.1 in
      let cut : min s top ≡ top = omega (arith, great) in
      let not_below : ltb top half ≡ false = le-ltb top half high in
      let none_below : ltb s half ≡ false = le-ltb s half (omega (arith, great, high)) in
      let one : suc top - suc top ≡ 0 = omega arith in
      let other : suc top - suc s ≡ 0 = omega (arith, great) in
      ap (λ n. reads (ltb n half) (pos n) (negsuc (suc top - suc n))) cut
      ∙ ap (λ b. reads b (pos top) (negsuc (suc top - suc top))) not_below
      ∙ ap negsuc (one ∙ sym other)
      ∙ ap (λ b. reads b (pos s) (negsuc (suc top - suc s))) (sym none_below)
]

pub signed_cut : (s : ℕ) → cast_signed w64 (min s (2 ^ 64 - 1)) ≡ cast_signed w64 s
signed_cut s = cut_reading (2 ^ 63) (2 ^ 64 - 1) s (lit≤ tt)

-- what these flushes took can be counted
pub record AreCountable (flushes : List FlushRecord) : Type 0 where
  pub units : (id : ℕ) → flushed id flushes < 2 ^ 63
  pub lawful : AllByRecursion HasLawfulParts flushes
  pub values : (id : ℕ) → values_taken id flushes ≤ MAX_COUNT

pub countable : (config : Config) (report : Report) → IsShowable config report → AreCountable report.flushes
countable config report can = record { units = can.units; lawful = can.lawful; values = can.values }

module _ (flushes : List FlushRecord) (can : AreCountable flushes) (k : ℕ) (flush : FlushRecord)
    (at : slice_get flushes k ≡ Some flush) where
  -- no counter has as many units in the flush as a word can't hold
  few_units : (id : ℕ) → flushed id (take k flushes) + flushed_in id flush < 2 ^ 63
  few_units id =
      let all = can.units id in
      let front = front_sum (flushed_in id) (suc k) flushes in
      let more = more_sum (flushed_in id) flushes k flush at in
      omega (arith, all, front, more)

  few_values : (id : ℕ) → values_taken id (take k flushes) + values_in id flush.parts ≤ MAX_COUNT
  few_values id =
      let all = can.values id in
      let whole = all_values id flushes in
      let first = all_values id (take k flushes) in
      let front = front_sum (values_by id) (suc k) flushes in
      let more = more_sum (values_by id) flushes k flush at in
      omega (arith, all, whole, first, front, more)

  lawful : HasLawfulParts flush
  lawful = lawful_at flushes k flush at can.lawful

  roomy : (slots : Slots)
      → ((id : ℕ)
      → (bins_at slots id ≡ []) ⊎
      (bins_at slots id ≡ merged_parts (flat_map (parts_on id) (take k flushes))))
      → IsRoomy slots flush.parts
  roomy slots are = record {
    few = λ id.
        let few = few_values id in
        elim (are id) [
          | inl none ↦ let size = ap total none in omega (arith, few, size)
          | inr some ↦
              let size = ap total some in
              let all = total-behind [] (flat_map (parts_on id) (take k flushes)) in
              omega (arith, few, size, all)
        ];
  }

  -- there is room for the parts of the flush alone, and beside those of the flushes before
  pub room_alone : (count : ℕ) → HasRoomForAll (replicate count None) flush.parts
  room_alone count =
      room_for_all (replicate count None) flush.parts lawful
      (roomy (replicate count None) (λ id. inl (ap held (no_bins_at count id))))

  pub room_beside : (count : ℕ) (slots : Slots) → length slots ≡ count
      → ((id : ℕ) → id < count
      → bins_at slots id ≡ merged_parts (flat_map (parts_on id) (take k flushes)))
      → HasRoomForAll slots flush.parts
  room_beside count slots long are =
      room_for_all slots flush.parts lawful (roomy slots (λ id. elim (leb_tells (length slots) id) [
        | inl h ↦ inl (ap held (get_or_past slots id None h.1))
        | inr h ↦ let within = h.1 in inr (are id (omega (arith, within, long)))
      ]))

  -- the sums behind the flush
  pub totals_behind : (sums : List ℕ) (id : ℕ) → id < length sums
      → get_or sums id 0 ≡ flushed id (take k flushes)
      → get_or (with_deltas sums flush.deltas) id 0 ≡ flushed id (take (suc k) flushes)
  totals_behind sums id within was =
      let few = few_units id in
      let sum = deltas_at sums flush.deltas id within (omega (arith, was, few)) in
      let more = more_sum (flushed_in id) flushes k flush at in
      omega (arith, sum, was, few, more)

  pub bins_behind : (slots : Slots) (id : ℕ) → id < length slots
      → bins_at slots id ≡ merged_parts (flat_map (parts_on id) (take k flushes))
      → bins_at (with_parts slots flush.parts) id ≡ merged_parts (flat_map (parts_on id) (take (suc k) flushes))
  bins_behind slots id within was =
      parts_at slots flush.parts id within
      ∙ ap (λ (bins : List BinCount). behind bins (parts_on id flush)) was
      ∙ sym (behind-append [] (flat_map (parts_on id) (take k flushes)) (parts_on id flush))
      ∙ ap (behind []) (sym (flat_map-push id (take k flushes) flush))
      ∙ ap (λ (l : List FlushRecord). behind [] (flat_map (parts_on id) l)) (sym (one_more flushes k flush at))

  -- what the flush took alone
  pub units_alone : (count id : ℕ) → id < count
      → get_or (with_deltas (replicate count 0) flush.deltas) id 0 ≡ flushed_in id flush
  units_alone count id within =
      let few = few_units id in
      let none = no_sum_at count id in
      let long = length-replicate {A = ℕ} count 0 in
      let sum = deltas_at (replicate count 0) flush.deltas id (omega (arith, within, long)) (omega (arith, none)) in
      omega (arith, sum, none, few)

  pub intervals_alone : (count id : ℕ) → id < count
      → (bins_at (with_parts (replicate count None) flush.parts) id ≡ merged_parts (parts_on id flush))
      × (is_warm_at (with_parts (replicate count None) flush.parts) id ≡ list_any (is_part_on id) flush.parts)
  intervals_alone count id within =
      let long = length-replicate {A = Option (List BinCount)} count None in
      let inside : id < length (replicate count None) = omega (arith, within, long) in (
        parts_at (replicate count None) flush.parts id inside
            ∙ ap (λ (slot : Option (List BinCount)). behind (held slot) (parts_on id flush)) (no_bins_at count id),
        warm_at (replicate count None) flush.parts id inside
            ∙ ap (λ (slot : Option (List BinCount)). is_some slot || list_any (is_part_on id) flush.parts)
            (no_bins_at count id),
      )

-- the words of the flush, as signed numbers
pub words_alone : (flush : FlushRecord) (count id : ℕ) → id < count
    → cast_signed w64 (get_or (with_readings (replicate count 0) flush.gauges) id 0)
    ≡ cast_signed w64 (sum_by (word_on id) flush.gauges)
words_alone flush count id within =
    let none = no_sum_at count id in
    let long = length-replicate {A = ℕ} count 0 in
    let sum = readings_at (replicate count 0) flush.gauges id (omega (arith, within, long)) (omega (arith, none)) in
    ap (cast_signed w64)
    (sum ∙ ap (λ n. min (n + sum_by (word_on id) flush.gauges) (2 ^ 64 - 1)) none
    ∙ ap (λ n. min n (2 ^ 64 - 1)) (zero-add (sum_by (word_on id) flush.gauges)))
    ∙ signed_cut (sum_by (word_on id) flush.gauges)
