-- The end of cells (this project's own).
use Rattle.std.specs.Prelude.{◌≡◌, ℕ, suc, ◌*◌, ◌≤◌, List, [], ◌∷◌, ◌++◌, length}
use Rattle.merge_round.specs.Halves.{HalfState}
use Rattle.merge_round.specs.Rounds.{ParentsState, with_half}
use Rattle.turn_cell.specs.declared.limits.TheConstants.{MAX_TURNED}
use Rattle.turn_cell.specs.Tokens.{cell_id, note_known}
use Rattle.flush_cells.specs.declared.tokens.FlushCell.{FlushCell}
use Rattle.flush_cells.specs.declared.tokens.FlushCell.TheVariants.{Holding}
use Rattle.flush_cells.specs.Cells.{cell_known}
use Rattle.cells_end.specs.declared.end.CellEnd.{CellEnd}

-- the worker's note and the flusher's token are of this cell, and the active half has no more values than a cell takes
pub record IsEnd (token : FlushCell) (end : CellEnd) : Type 0 where
  pub left : (note_known end.note).cell ≡ cell_id end.cell
  pub taken : (cell_known token).cell ≡ cell_id end.cell
  pub few : length end.half.values ≤ MAX_TURNED

-- the same of each worker, in order
abbrev pub AreEnds : List FlushCell → List CellEnd → Type 0
AreEnds [] [] = Unit {0}
AreEnds (token ∷ tokens) (end ∷ ends) = IsEnd token end × AreEnds tokens ends
AreEnds _ _ = ⊥

-- the half that was taken and could not be merged
abbrev pub held_half : FlushCell → List HalfState
held_half (Holding half f) = half ∷ []
held_half other = []

-- these halves more of this worker, in order
abbrev pub with_halves : ℕ → List HalfState → ParentsState → ParentsState
with_halves worker [] parents = parents
with_halves worker (half ∷ halves) parents = with_halves worker halves (with_half worker half parents)

-- What the worker turned is what the flusher took and what was left in the cell. The held half, then what was left, and
-- then the active half were merged.
pub record EndsOne (worker : ℕ) (token : FlushCell) (end : CellEnd) (old new : ParentsState) : Type 0 where
  pub left : List HalfState
  pub turned : (note_known end.note).halves ≡ (cell_known token).halves ++ left
  pub merged : new ≡ with_halves worker (held_half token ++ (left ++ end.half ∷ [])) old

-- the same of each worker from this one on
abbrev pub EndsEach : ℕ → List FlushCell → List CellEnd → ParentsState → ParentsState → Type 0
EndsEach worker [] [] old new = new ≡ old
EndsEach worker (token ∷ tokens) (end ∷ ends) old new = (mid : ParentsState) × EndsOne worker token end old mid
    × EndsEach (suc worker) tokens ends mid new
EndsEach worker _ _ old new = ⊥

-- the most values that are left of a worker: in a held half, in one that was not taken, and in the active one
abbrev pub most_left : ℕ
most_left = 3 * MAX_TURNED
