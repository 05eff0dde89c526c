-- What a flusher has of the workers' cells (this project's own).
use Rattle.std.specs.Prelude.{◌≡◌, ℕ, ◌+◌, ◌^◌, ◌≤◌, Bool, true, false, List, [], ◌∷◌, Option, Some, None, length, All}
use Rattle.atomic_table.specs.Seated.{TableId}
use Rattle.seat_parts.specs.Parts.{total}
use Rattle.merge_round.specs.Halves.{HalfState}
use Rattle.merge_round.specs.Rounds.{ParentsState, all_values}
use Rattle.turn_cell.specs.declared.limits.TheConstants.{MAX_TURNED}
use Rattle.turn_cell.specs.declared.view.TurnStep.{TurnStep}
use Rattle.turn_cell.specs.Tokens.{TurnKnown, idle_known, waiting_known, holding_known, weight_of}
use Rattle.flush_cells.specs.declared.tokens.TheConstants.{MAX_CELLS}
use Rattle.flush_cells.specs.declared.tokens.FlushCell.{FlushCell}
use Rattle.flush_cells.specs.declared.tokens.FlushCell.TheVariants.{Idle, Waiting, Holding}

-- what the token knows: the halves that were taken with it, in order, and its steps
abbrev pub cell_known : FlushCell → TurnKnown HalfState
cell_known (Idle f) = idle_known f
cell_known (Waiting f) = waiting_known f
cell_known (Holding half f) = holding_known f

abbrev pub cell_of : FlushCell → TableId
cell_of c = (cell_known c).cell

-- the number of values of a half
abbrev pub count_in : HalfState → ℕ
count_in half = length half.values

-- the number of values that were merged
abbrev pub merged_count : ParentsState → ℕ
merged_count parents = length (all_values parents.all)

-- the number of values of all halves taken, and of the one that is not merged yet
abbrev pub taken_weight : FlushCell → ℕ
taken_weight c = weight_of count_in (cell_known c)

abbrev pub held_weight : FlushCell → ℕ
held_weight (Holding half f) = length half.values
held_weight other = 0

abbrev pub newest : List TurnStep → Option ℕ
newest [] = None
newest (s ∷ steps) = Some s.found

-- the word that the last look found, of a worker that was asked and has not turned
abbrev pub late_in : FlushCell → Option ℕ
late_in (Waiting f) = newest (waiting_known f).steps
late_in other = None

abbrev pub IsCellKept : FlushCell → Type 0
IsCellKept c = (held_weight c ≤ taken_weight c) × (taken_weight c ≤ MAX_TURNED)

-- more than all halves of all workers have
abbrev pub most_merged : ℕ
most_merged = 2 ^ 30

-- so many values were merged: no more than were taken and are not held
pub record AreKept (count : ℕ) (seats : List FlushCell) : Type 0 where
  pub few : length seats ≤ MAX_CELLS
  pub each : All IsCellKept seats
  pub merged : count + total held_weight seats ≤ total taken_weight seats

-- each half of the round is one of these workers', who are numbered from 1
abbrev pub IsRoundOf : ℕ → List (ℕ × HalfState) → Type 0
IsRoundOf workers round = All (λ half. (1 ≤ half.0) × (half.0 ≤ workers)) round

-- a half is held that could not be merged
abbrev pub is_holding_in : FlushCell → Bool
is_holding_in (Holding half f) = true
is_holding_in other = false

abbrev pub IsNotHolding : FlushCell → Type 0
IsNotHolding c = is_holding_in c ≡ false
