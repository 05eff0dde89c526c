-- The table of counts: the place of a bin, the bin at a place, and the bins that a table holds. This project's own.
use Rattle.std.specs.Prelude.{◌≡◌, ◌≤◌, ◌<◌, get_or, ℕ, pos, zero, suc, ◌+◌, ◌-◌, ◌*◌, ◌/◌, ◌%◌, nat_lt, if◌then◌else◌}
use Rattle.std.specs.Prelude.{List, [], ◌∷◌, length, sum}
use Rattle.stat_defs.specs.declared.bins.Bin.{Bin}
use Rattle.stat_defs.specs.declared.bins.BinCount.{BinCount}
use Rattle.loglinear_bins.specs.declared.place.TheConstants.{BIN_COUNT, MAX_COUNT}
use Rattle.loglinear_bins.specs.Bins.{steps}

-- ten bins at the least exponent, then ninety at each
abbrev pub place_at : ℕ → ℕ → ℕ
place_at val zero = val / 10
place_at val (suc row) = 90 * row + val

unfoldable pub place_of : Bin → ℕ
place_of bin = place_at bin.val (steps bin.exp)

unfoldable pub bin_at : ℕ → Bin
bin_at place =
    if nat_lt place 10 then record { val = 10 * place; exp = pos 0 }
    else record { val = (place - 10) % 90 + 10; exp = pos ((place - 10) / 90 + 1) }

-- the bins of the places from this one on that are not empty, with their counts
unfoldable pub listed : ℕ → List ℕ → List BinCount
listed place [] = []
listed place (zero ∷ ns) = listed (suc place) ns
listed place (suc n ∷ ns) = (record { bin = bin_at place; count = suc n }) ∷ listed (suc place) ns

-- what every table keeps: counts of the first places, of which there is one for each lawful bin, their sum and its limit
pub record IsTable (counts : List ℕ) (n : ℕ) : Type 0 where
  pub within : length counts ≤ BIN_COUNT
  pub counted : sum counts ≡ n
  pub limit : n ≤ MAX_COUNT

-- the counts below `first` and from `past` on are 0
pub record IsOccupied (counts : List ℕ) (first past : ℕ) : Type 0 where
  pub below : (place : ℕ) → place < first → get_or counts place 0 ≡ 0
  pub above : (place : ℕ) → past ≤ place → get_or counts place 0 ≡ 0
  pub past_within : past ≤ length counts
