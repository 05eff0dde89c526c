-- The bins of a list of values.
use Rattle.std.proofs.Common.{◌≡◌, ℕ, suc, zero, ℤ, pos, negsuc, ◌+◌, ◌^◌, ◌<◌, true, List, [], ◌∷◌, ◌++◌, All, fold, length, get_or, set, replicate, append-nil, append_assoc, subst, refl, sym, ap, ◌∙◌, arith}
use Rattle.std.proofs.lemmas.Bool.{false≢true}
use Rattle.std.proofs.lemmas.Bool.Decides.{nat_tests}
use Rattle.std.proofs.lemmas.List.{length-set, length-replicate, get_or_default}
use Rattle.std.proofs.lemmas.List.Sums.{fold-append}
use Rattle.stat_defs.specs.declared.bins.BinCount.{BinCount}
use Rattle.loglinear_bins.specs.declared.place.TheConstants.{BIN_COUNT}
use Rattle.loglinear_bins.specs.Bins.{bin_of_value, is_lawful_at, steps}
use Rattle.loglinear_bins.specs.Counts.{AreBinsOf, IsBinList, added, bins_of}
use Rattle.loglinear_bins.specs.Table.{place_at, place_of, listed}
use Rattle.loglinear_bins.proofs.Adding.{AreBinsOf-added}
use Rattle.loglinear_bins.proofs.Lawful.{is_lawful-bin_of_value}
use Rattle.loglinear_bins.proofs.Rising.{IsBinList-listed}
use Rattle.loglinear_bins.proofs.Tables.{listed-added, listed-replicate}

-- a lawful bin has a place in the table
place_at-within : (val : ℕ) (exp : ℤ) → is_lawful_at val exp ≡ true → place_at val (steps exp) < BIN_COUNT
place_at-within val (pos zero) holds = grind (arith, nat_tests)
place_at-within val (pos (suc row)) holds = grind (arith, nat_tests)
place_at-within val (negsuc e) holds = absurd (false≢true holds)

place_of-within : (v : ℕ) → v < 2 ^ 64 → place_of (bin_of_value v) < BIN_COUNT
unfolding place_of
place_of-within v small = place_at-within (bin_of_value v).val (bin_of_value v).exp (is_lawful-bin_of_value v small)

-- one value more
pub bins_of-more : (values : List ℕ) (v : ℕ) → added (bins_of values) (bin_of_value v) 1 ≡ bins_of (values ++ v ∷ [])
bins_of-more values v = sym (fold-append (λ counts u. added counts (bin_of_value u) 1) [] values (v ∷ []))

abbrev counting : List BinCount → List ℕ → List BinCount
counting counts values = fold (λ cs v. added cs (bin_of_value v) 1) counts values

-- after values that were counted already
each_after : (counts : List BinCount) (before values : List ℕ) → AreBinsOf counts before → AreBinsOf (counting counts values) (before ++ values)
each_after counts before [] are = rw (append-nil before) are
each_after counts before (v ∷ values) are =
    rw (← append_assoc before (v ∷ []) values)
    (each_after (added counts (bin_of_value v) 1) (before ++ v ∷ []) values (AreBinsOf-added counts before v are))

pub AreBinsOf-bins_of : (values : List ℕ) → AreBinsOf (bins_of values) values
AreBinsOf-bins_of values = each_after [] [] values (record { each = λ bin. refl })

-- they are what some table lists
counted_in : (ns values : List ℕ) → length ns ≡ BIN_COUNT → All (λ v. v < 2 ^ 64) values
    → (ms : List ℕ) × (length ms ≡ BIN_COUNT) × (counting (listed 0 ns) values ≡ listed 0 ms)
counted_in ns [] full small = (ns, full, refl)
counted_in ns (v ∷ values) full small =
    let below : v < 2 ^ 64 = small 0 v (omega arith) in
    let place : ℕ = place_of (bin_of_value v) in
    let within : place < length ns = omega (arith, place_of-within v below, full) in
    let here : ℕ = get_or ns place 0 in
    let step : listed 0 (set ns place (here + 1)) ≡ added (listed 0 ns) (bin_of_value v) 1
    = listed-added ns (bin_of_value v) place here 1 within (sym (get_or_default ns place here 0 within)) refl (is_lawful-bin_of_value v below) in
    let rest = counted_in (set ns place (here + 1)) values (length-set ns place (here + 1) ∙ full) (λ k d short. small (suc k) d (omega (arith, short))) in
    (rest.0, rest.1, ap (λ cs. counting cs values) (sym step) ∙ rest.2)

pub IsBinList-bins_of : (values : List ℕ) → All (λ v. v < 2 ^ 64) values → IsBinList (bins_of values)
IsBinList-bins_of values small =
    let table = counted_in (replicate BIN_COUNT 0) values (length-replicate {A = ℕ} BIN_COUNT 0) small in
    let same : bins_of values ≡ listed 0 table.0 = ap (λ cs. counting cs values) (sym (listed-replicate 0 BIN_COUNT)) ∙ table.2 in
    subst IsBinList (sym same) (IsBinList-listed table.0 (omega (arith, table.1)))
