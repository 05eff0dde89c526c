-- What a table lists is lawful, rising and without empty bins.
use Rattle.std.proofs.Common.{◌≡◌, ℕ, suc, zero, ◌+◌, ◌<◌, ◌≤◌, true, List, [], ◌∷◌, length, map, get_or, refl, subst, arith, ltb}
use Rattle.std.specs.List.{list_all}
use Rattle.std.specs.List.Sorted.{IsStrictlyIncreasing}
use Rattle.std.proofs.lemmas.Bool.{and_from, lt-ltb}
use Rattle.stat_defs.specs.declared.bins.BinCount.{BinCount}
use Rattle.loglinear_bins.specs.declared.place.TheConstants.{BIN_COUNT}
use Rattle.loglinear_bins.specs.Bins.{is_lawful, low_tenths}
use Rattle.loglinear_bins.specs.Counts.{IsBinList}
use Rattle.loglinear_bins.specs.Table.{bin_at, listed}
use Rattle.loglinear_bins.proofs.Order.{low_tenths-bin_at}
use Rattle.loglinear_bins.proofs.Lawful.{is_lawful-bin_at}
use Rattle.loglinear_bins.proofs.Reading.{Shows}

all_lawful : (k : ℕ) (ns : List ℕ) → k + length ns ≤ BIN_COUNT → list_all (λ (c : BinCount). is_lawful c.bin) (listed k ns) ≡ true
unfolding listed
all_lawful k [] within = refl
all_lawful k (zero ∷ ns) within = all_lawful (suc k) ns (omega arith)
all_lawful k (suc n ∷ ns) within = and_from _ _ (is_lawful-bin_at k (omega arith)) (all_lawful (suc k) ns (omega arith))

all_some : (k : ℕ) (ns : List ℕ) → list_all (λ (c : BinCount). ltb 0 c.count) (listed k ns) ≡ true
unfolding listed
all_some k [] = refl
all_some k (zero ∷ ns) = all_some (suc k) ns
all_some k (suc n ∷ ns) = and_from _ _ (lt-ltb 0 (suc n) (omega arith)) (all_some (suc k) ns)

-- ten times the low ends
abbrev pub lows : List BinCount → List ℕ
lows counts = map (λ c. low_tenths c.bin) counts

-- a bin at a lower place begins below the first listed one
first_above : (j k : ℕ) (ns : List ℕ) → j < k → 0 < length (lows (listed k ns)) → low_tenths (bin_at j) < get_or (lows (listed k ns)) 0 0
unfolding listed
first_above j k [] below some = absurd (omega arith)
first_above j k (zero ∷ ns) below some = first_above j (suc k) ns (omega arith) some
first_above j k (suc n ∷ ns) below some = low_tenths-bin_at j k below

-- a lower number in front of rising ones
rising-cons : (x : ℕ) (xs : List ℕ) → (0 < length xs → x < get_or xs 0 0) → IsStrictlyIncreasing xs → IsStrictlyIncreasing (x ∷ xs)
rising-cons x xs first rising zero short = first (omega arith)
rising-cons x xs first rising (suc k) short = let next : suc k + 1 ≡ suc (k + 1) = omega arith in rw next (rising k (omega arith))

all_rising : (k : ℕ) (ns : List ℕ) → IsStrictlyIncreasing (lows (listed k ns))
unfolding listed
all_rising k [] = λ j short. absurd (omega arith)
all_rising k (zero ∷ ns) = all_rising (suc k) ns
all_rising k (suc n ∷ ns) = rising-cons (low_tenths (bin_at k)) (lows (listed (suc k) ns)) (first_above k (suc k) ns (omega arith)) (all_rising (suc k) ns)

pub IsBinList-listed : (ns : List ℕ) → length ns ≤ BIN_COUNT → IsBinList (listed 0 ns)
IsBinList-listed ns full = record { lawful = all_lawful 0 ns (omega arith); rising = all_rising 0 ns; some = all_some 0 ns }

-- so is what contracts see
pub IsBinList-shown : (ns : List ℕ) (counts : List BinCount) → Shows ns counts → IsBinList counts
IsBinList-shown ns counts shows = subst IsBinList shows.view (IsBinList-listed ns shows.within)
