-- What clauses read of a cell, of the tokens of its parties, and of what its calls give (this project's own).
-- A token knows two lists, which its own calls alone lengthen: the halves that were turned or taken with
-- it, in order, and its steps, the newest first.
use Rattle.std.specs.Prelude.{ℕ, Bool, List, [], ◌∷◌, ◌++◌}
use Rattle.atomic_table.specs.Seated.{TableId}
use Rattle.seat_parts.specs.Parts.{total}
use Rattle.turn_cell.specs.declared.view.TurnKind.{TurnKind}
use Rattle.turn_cell.specs.declared.view.TurnStep.{TurnStep}
use Rattle.turn_cell.specs.declared.view.TurnPart.{TurnPart}
use Rattle.turn_cell.specs.declared.cell.TurnCell.{TurnCell}
use Rattle.turn_cell.specs.declared.tokens.TurnWorker.{TurnWorker}
use Rattle.turn_cell.specs.declared.tokens.LeftNote.{LeftNote}
use Rattle.turn_cell.specs.declared.tokens.FlushIdle.{FlushIdle}
use Rattle.turn_cell.specs.declared.tokens.FlushWaiting.{FlushWaiting}
use Rattle.turn_cell.specs.declared.tokens.FlushHolding.{FlushHolding}
use Rattle.turn_cell.specs.declared.tokens.FlushAny.{FlushAny}
use Rattle.turn_cell.specs.declared.tokens.FlushAny.TheVariants.{Idle, Waiting}
use Rattle.turn_cell.specs.Turned.{own_turn, can_turn}
use Rattle.turn_cell.specs.Steps.{turn_step}

-- what a token knows: its cell, the halves that were turned or taken with it, and its steps
pub record TurnKnown (H : Type 0) : Type 0 where
  pub cell : TableId
  pub halves : List H
  pub steps : List TurnStep

module _ {H : Type 0} where
  abbrev pub cell_id : TurnCell H → TableId
  cell_id c = c.table.shared.table_id

  -- the same after one step more
  abbrev pub after_step : TurnKind → ℕ → TurnKnown H → TurnKnown H
  after_step kind found k = record { cell = k.cell; halves = k.halves; steps = turn_step kind found ∷ k.steps }

  -- the same with one half more
  abbrev pub with_half : H → TurnKnown H → TurnKnown H
  with_half half k = record { cell = k.cell; halves = k.halves ++ half ∷ []; steps = k.steps }

  -- what its halves weigh together
  abbrev pub weight_of : (H → ℕ) → TurnKnown H → ℕ
  weight_of weighs k = total weighs k.halves

  abbrev pub new_known : TableId → TurnKnown H
  new_known cell = record { cell = cell; halves = []; steps = [] }

  abbrev pub known_of : TableId → TurnPart H → TurnKnown H
  known_of cell p = record { cell = cell; halves = p.halves; steps = p.steps }

  abbrev pub worker_known : TurnWorker H → TurnKnown H
  worker_known w = known_of w.seat.table_id (own_turn w.seat.me.0)

  -- the last `asked` with this token said true, and no turn came since
  abbrev pub may_turn : TurnWorker H → Bool
  may_turn w = can_turn (own_turn w.seat.me.0).party

  abbrev pub note_known : LeftNote H → TurnKnown H
  note_known note = known_of note.seat.table_id (own_turn note.seat.me.0)

  abbrev pub idle_known : FlushIdle H → TurnKnown H
  idle_known f = known_of f.seat.table_id (own_turn f.seat.me.0)

  abbrev pub waiting_known : FlushWaiting H → TurnKnown H
  waiting_known f = known_of f.seat.table_id (own_turn f.seat.me.0)

  abbrev pub holding_known : FlushHolding H → TurnKnown H
  holding_known f = known_of f.seat.table_id (own_turn f.seat.me.0)

  abbrev pub flusher_known : FlushAny H → TurnKnown H
  flusher_known (Idle f) = idle_known f
  flusher_known (Waiting f) = waiting_known f

  -- the flusher has asked for nothing that it did not get
  abbrev pub IsIdle : FlushAny H → Type 0
  IsIdle (Idle f) = Unit {0}
  IsIdle (Waiting f) = ⊥
