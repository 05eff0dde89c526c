-- Lists of bins with their counts, rising and without empty bins, and what a histogram tells of them
-- (Envoy's histograms over circllhist; thousandths and twentieths are this project's own units).
use Rattle.std.specs.Prelude.{◌≡◌, ℕ, zero, suc, ◌+◌, ◌-◌, ◌*◌, ◌/◌, ◌==◌, nat_le, nat_lt, if◌then◌else◌, List, [], ◌∷◌}
use Rattle.std.specs.Prelude.{Option, Some, None, IsTrue, map, fold, sum_by, count_by}
use Rattle.std.specs.List.{list_all}
use Rattle.std.specs.List.Sorted.{IsStrictlyIncreasing}
use Rattle.stat_defs.specs.declared.bins.Bin.{Bin}
use Rattle.stat_defs.specs.declared.bins.BinCount.{BinCount}
use Rattle.loglinear_bins.specs.Bins.{bin_of_value, is_lawful, is_same, low_tenths, low_thousandths, width_thousandths}
use Rattle.loglinear_bins.specs.Bins.{largest_whole, mark_twentieths}

-- each bin is one that values of 64 bits meet
abbrev pub AreLawful : List BinCount → Type 0
AreLawful counts = IsTrue (list_all (λ c. is_lawful c.bin) counts)

-- lawful bins, rising, none of them empty
pub record IsBinList (counts : List BinCount) : Type 0 where
  pub lawful : AreLawful counts
  pub rising : IsStrictlyIncreasing (map (λ c. low_tenths c.bin) counts)
  pub some : IsTrue (list_all (λ c. nat_lt 0 c.count) counts)

-- how many values there are
abbrev pub total : List BinCount → ℕ
total counts = sum_by (λ c. c.count) counts

-- how many of them are in this bin
abbrev pub count_of : List BinCount → Bin → ℕ
count_of counts bin = sum_by (λ c. if is_same c.bin bin then c.count else 0) counts

-- these are the bins of these values: each bin counts the members of the list that have it
pub record AreBinsOf (counts : List BinCount) (values : List ℕ) : Type 0 where
  pub each : (bin : Bin) → count_of counts bin ≡ count_by (λ v. is_same (bin_of_value v) bin) values

-- `n` more in this bin, which takes its place among the rising ones; `n` is not 0
abbrev pub placed : List BinCount → Bin → ℕ → List BinCount
placed [] bin n = (record { bin = bin; count = n }) ∷ []
placed (c ∷ cs) bin n =
    if is_same c.bin bin then (record { bin = c.bin; count = c.count + n }) ∷ cs
    else if nat_lt (low_tenths bin) (low_tenths c.bin) then (record { bin = bin; count = n }) ∷ c ∷ cs
    else c ∷ placed cs bin n

-- `n` more in this bin
abbrev pub added : List BinCount → Bin → ℕ → List BinCount
added counts bin zero = counts
added counts bin (suc n) = placed counts bin (suc n)

-- the bins of a list of values: one more in the bin of each
abbrev pub bins_of : List ℕ → List BinCount
bins_of values = fold (λ counts v. added counts (bin_of_value v) 1) [] values

-- all of the second list more
abbrev pub merged : List BinCount → List BinCount → List BinCount
merged counts [] = counts
merged counts (c ∷ cs) = merged (added counts c.bin c.count) cs

-- how many values are in bins whose largest whole number is at most a bound, given as twice its number
abbrev pub count_at_most : List BinCount → ℕ → ℕ
count_at_most counts halves = sum_by (λ c. if nat_le (2 * largest_whole c.bin) halves then c.count else 0) counts

-- twenty times the sum of the values, each taken as the middle of its bin
abbrev pub sum_of : List BinCount → ℕ
sum_of counts = sum_by (λ c. c.count * mark_twentieths c.bin) counts

-- the rank of a quantile in thousandths among `n` values, rounded up
abbrev pub rank : ℕ → ℕ → ℕ
rank q n = (q * n + 999) / 1000

-- a thousand times the value of a rank: the low end of the bin that holds it, plus the bin's width
-- times the rank less the count before the bin over the bin's count; rank 0 is the low end of the first bin
abbrev pub value_at : List BinCount → ℕ → ℕ
value_at [] t = 0
value_at (c ∷ cs) t =
    if nat_le t c.count then low_thousandths c.bin + width_thousandths c.bin * t / c.count
    else value_at cs (t - c.count)

-- a thousand times the quantile, in thousandths; there is none without values
abbrev pub quantile_of : List BinCount → ℕ → Option ℕ
quantile_of counts q = if total counts == 0 then None else Some (value_at counts (rank q (total counts)))
