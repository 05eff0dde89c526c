-- What flushes took, by the numbers of metrics. This project's own.
use Rattle.std.specs.Prelude.{◌≤◌, ◌+◌, ◌-◌, ◌^◌, ℕ, min, Some, List, [], ◌∷◌, fold, slice_index, slice_set}
use Rattle.stat_defs.specs.declared.reports.Delta.{Delta}
use Rattle.stat_defs.specs.declared.reports.Part.{Part}
use Rattle.stat_defs.specs.declared.reports.Reading.{Reading}
use Rattle.loglinear_bins.specs.declared.place.TheConstants.{MAX_COUNT}
use Rattle.loglinear_bins.specs.Counts.{AreLawful, merged, total}
use Rattle.merge_round.specs.Slots.{Slots, bins_at}

-- a number is added to the sum at this place, up to the greatest number of 64 bits
abbrev pub added_at : List ℕ → ℕ → ℕ → List ℕ
added_at sums id n = slice_set sums id (min (slice_index sums id + n) (2 ^ 64 - 1))

-- the units of these deltas
abbrev pub with_deltas : List ℕ → List Delta → List ℕ
with_deltas sums deltas = fold (λ sums delta. added_at sums delta.id.0 delta.n) sums deltas

-- the words of these readings
abbrev pub with_readings : List ℕ → List Reading → List ℕ
with_readings sums readings = fold (λ sums reading. added_at sums reading.id.0 reading.word) sums readings

-- the bins of a part are added to those of its histogram
abbrev pub with_part : Slots → Part → Slots
with_part slots part = slice_set slots part.id.0 (Some (merged (bins_at slots part.id.0) part.bins))

abbrev pub with_parts : Slots → List Part → Slots
with_parts slots parts = fold with_part slots parts

-- there is room for a part: its bins are lawful, and all its values can be counted
pub record HasRoomFor (slots : Slots) (part : Part) : Type 0 where
  pub lawful : AreLawful part.bins
  pub few : total (bins_at slots part.id.0) + total part.bins ≤ MAX_COUNT

-- there is room for parts one after another
abbrev pub HasRoomForAll : Slots → List Part → Type 0
HasRoomForAll slots [] = Unit {0}
HasRoomForAll slots (part ∷ parts) = HasRoomFor slots part × HasRoomForAll (with_part slots part) parts
