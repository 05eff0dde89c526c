-- The cells of a new store, and what its parties have of them (this project's own).
use Rattle.std.specs.Prelude.{◌≡◌, List, map, All, vec_len, vec_capacity}
use Rattle.atomic_table.specs.Seated.{TableId}
use Rattle.merge_round.specs.Halves.{HalfState, new_half}
use Rattle.turn_cell.specs.declared.cell.TurnCell.{TurnCell}
use Rattle.turn_cell.specs.Tokens.{cell_id, new_known}
use Rattle.half_side.specs.Halves.{HalfKnown}
use Rattle.flush_cells.specs.declared.tokens.FlushCell.{FlushCell}
use Rattle.flush_cells.specs.Cells.{cell_of}
use Rattle.flusher.specs.Flusher.{IsNewToken}
use Rattle.store_opening.specs.declared.cells.CellDeal.{CellDeal}

-- a side that has turned no half, with an empty one
abbrev pub new_side : TableId → HalfKnown
new_side cell = record { cell = new_known cell; active = new_half }

-- for each cell a side and a token, in order
pub record AreNewCells (cells : List (TurnCell HalfState)) (sides : List HalfKnown) (tokens : List FlushCell)
    : Type 0 where
  pub each_side : sides ≡ map new_side (map cell_id cells)
  pub each_token : All IsNewToken tokens
  pub same_cells : map cell_of tokens ≡ map cell_id cells

-- the same of the lists of a deal, which have the same room each
pub record IsCellDeal (deal : CellDeal) : Type 0 where
  pub new : AreNewCells deal.cells.items deal.sides.items deal.tokens.items
  pub sides : (vec_len deal.sides ≡ vec_len deal.cells) × (vec_capacity deal.sides ≡ vec_capacity deal.cells)
  pub tokens : (vec_len deal.tokens ≡ vec_len deal.cells) × (vec_capacity deal.tokens ≡ vec_capacity deal.cells)
