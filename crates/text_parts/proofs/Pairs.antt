-- The bins of a list, one after the other.
use Rattle.std.proofs.Common.{ℕ, ◌+◌, ◌<◌, ◌≤◌, List, length, get_or, take, arith}
use Rattle.std.specs.Prelude.{sum_by}
use Rattle.std.proofs.lemmas.List.Sums.{sum_by-take-drop, sum_by-drop_more}
use Rattle.stat_defs.specs.declared.bins.BinCount.{BinCount}
use Rattle.loglinear_bins.specs.Counts.{total}
use Rattle.loglinear_bins.proofs.Reading.{share_at, count_at_most-le}

-- what the bins up to one add to a count at a bound is no more than all values
pub counted_within : (halves : ℕ) (counts : List BinCount) (i : ℕ) (d : BinCount) → i < length counts
    → sum_by (share_at halves) (take i counts) + share_at halves (get_or counts i d) ≤ total counts
counted_within halves counts i d short =
    omega (
      arith,
      sum_by-take-drop (share_at halves) counts i,
      sum_by-drop_more (share_at halves) counts i d short,
      count_at_most-le halves counts,
    )
