-- The last round of all cells (this project's own).
use Rattle.std.specs.Prelude.{◌≡◌, ℕ, List, [], ◌∷◌, ◌++◌, length, map}
use Rattle.stat_defs.specs.declared.reports.Part.{Part}
use Rattle.merge_round.specs.Rounds.{ParentsState, ArePartsOf}
use Rattle.turn_cell.specs.Tokens.{note_known}
use Rattle.flush_cells.specs.declared.tokens.FlushCell.{FlushCell}
use Rattle.flush_cells.specs.Taken.{HalfValues, values_of, EachInStep}
use Rattle.ledger.specs.Lists.{EachNumbered}
use Rattle.ledger.specs.Segments.{bins_by_worker}
use Rattle.run_ledger.specs.Told.{values_in, halves_at}
use Rattle.cells_end.specs.declared.end.CellEnd.{CellEnd}

-- the values of all halves of a worker: those that it turned, in order, and its active one
abbrev pub halves_at_end : CellEnd → HalfValues
halves_at_end end = map values_of (note_known end.note).halves ++ end.half.values ∷ []

-- The parts are those of the last round, which has all halves of each worker that no round before it has.
pub record IsLastRound (tokens : List FlushCell) (parents : ParentsState) (ends : List CellEnd) (parts : List Part)
    : Type 0 where
  -- of each worker, in order, the values of each half that the round has
  pub halves : List HalfValues
  pub each : length halves ≡ length ends
  pub are : ArePartsOf (bins_by_worker (map values_in halves)) parts
  -- the halves that rounds took before, and then those of the last one, are all that there are
  pub whole : (earlier : ℕ → HalfValues) → EachInStep 1 earlier parents tokens
      → EachNumbered (λ worker end. earlier worker ++ halves_at halves worker ≡ halves_at_end end) 1 ends
