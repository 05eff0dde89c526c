-- What the tables of a half and of parents are.
use Rattle.std.specs.Prelude.{◌≡◌, ℕ, ◌<◌, ◌≤◌, ◌^◌, List, [], length, get_or, vec_len}
use Rattle.stat_defs.specs.declared.bins.BinCount.{BinCount}
use Rattle.loglinear_bins.specs.declared.place.TheConstants.{MAX_COUNT}
use Rattle.merge_round.specs.declared.half.TheConstants.{MAX_HALF_COUNT}
use Rattle.merge_round.specs.declared.merged.Merged.{Merged}
use Rattle.merge_round.specs.Slots.{Slots, bins_at, is_warm_at, IsReadyFor}
use Rattle.merge_round.specs.Halves.{HalfState, is_warm_in, bins_by, AreSmall, HasAtMost}
use Rattle.merge_round.specs.Rounds.{ParentsState, worker_values, round_values, all_values, both}

-- these are the bins of these values, of which there are at most so many of a histogram
pub record Holds (bins : ℕ → List BinCount) (n : ℕ) (values : List (ℕ × ℕ)) : Type 0 where
  pub are : bins ≡ bins_by values
  pub few : HasAtMost n bins
  pub small : AreSmall values

-- a half with these tables, and with so many values
pub record IsHalf (tables : Slots) (count : ℕ) (half : HalfState) : Type 0 where
  pub holds : Holds (bins_at tables) count half.values
  pub warm : (id : ℕ) → is_warm_at tables id ≡ is_warm_in half id
  pub number : count ≡ length half.values
  pub limit : count ≤ MAX_HALF_COUNT

-- the bins of a round, by worker and histogram
abbrev pub parts_in : Merged → ℕ → ℕ → List BinCount
parts_in merged worker = bins_at (get_or merged.workers.items worker [])

-- there is a table for each histogram of which the others hold a value
pub record IsReady (merged : Merged) (worker : ℕ) (others : Slots) : Type 0 where
  pub within : worker < vec_len merged.workers
  pub part : IsReadyFor (get_or merged.workers.items worker []) others
  pub interval : IsReadyFor merged.interval others
  pub cumulative : IsReadyFor merged.cumulative others

pub record HasSameBins (old new : Merged) : Type 0 where
  pub parts : (worker : ℕ) → parts_in new worker ≡ parts_in old worker
  pub interval : bins_at new.interval ≡ bins_at old.interval
  pub cumulative : bins_at new.cumulative ≡ bins_at old.cumulative
  pub workers : vec_len old.workers ≤ 2 ^ 32 → vec_len new.workers ≤ 2 ^ 32

-- more bins of this worker
pub record IsMerged (worker : ℕ) (more : ℕ → List BinCount) (old new : Merged) : Type 0 where
  pub part : parts_in new worker ≡ both (parts_in old worker) more
  pub others : (other : ℕ) → ¬ (other ≡ worker) → parts_in new other ≡ parts_in old other
  pub interval : bins_at new.interval ≡ both (bins_at old.interval) more
  pub cumulative : bins_at new.cumulative ≡ both (bins_at old.cumulative) more
  pub workers : vec_len new.workers ≡ vec_len old.workers

-- no table has more values of a histogram than this
pub record HasFew (merged : Merged) (n : ℕ) : Type 0 where
  pub parts : (worker : ℕ) → HasAtMost n (parts_in merged worker)
  pub interval : HasAtMost n (bins_at merged.interval)
  pub cumulative : HasAtMost n (bins_at merged.cumulative)

-- parents with these tables, and with so many values of all rounds
pub record AreParents (merged : Merged) (count : ℕ) (parents : ParentsState) : Type 0 where
  pub parts : (worker : ℕ) → Holds (parts_in merged worker) count (worker_values worker parents.round)
  pub interval : Holds (bins_at merged.interval) count (round_values parents.round)
  pub cumulative : Holds (bins_at merged.cumulative) count (all_values parents.all)
  pub number : count ≡ length (all_values parents.all)
  pub limit : count ≤ MAX_COUNT
  pub workers : vec_len merged.workers ≤ 2 ^ 32
