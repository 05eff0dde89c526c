-- What the workers of a store left, sorted by what it is of (this project's own).
use Rattle.std.specs.Prelude.{◌≡◌, ℕ, ◌+◌, ◌≤◌, List, [], ◌∷◌, ◌++◌, length, map, vec_capacity}
use Rattle.locked_book.specs.declared.shared.LockedBook.{LockedBook}
use Rattle.metric_words.specs.declared.gauge_seats.GaugeSeat.{GaugeSeat}
use Rattle.merge_round.specs.Halves.{HalfState}
use Rattle.turn_cell.specs.declared.cell.TurnCell.{TurnCell}
use Rattle.cells_end.specs.declared.end.CellEnd.{CellEnd}
use Rattle.recorder.specs.declared.ended.Ended.{Ended}
use Rattle.store_closing.specs.declared.sorted.Sorted.{Sorted}

-- there is room for what so many workers more left
pub record HasRoomFor (count : ℕ) (s : Sorted) : Type 0 where
  pub seats : length s.seats.items + count ≤ vec_capacity s.seats
  pub counts : length s.counts.items + count ≤ vec_capacity s.counts
  pub gauges : length s.gauges.items + count ≤ vec_capacity s.gauges
  pub ends : length s.ends.items + count ≤ vec_capacity s.ends

-- what a worker left of its histograms, in its cell
abbrev pub end_of : TurnCell HalfState → Ended → CellEnd
end_of cell ended = record { cell = cell; note = ended.note; half = ended.half }

abbrev pub ends_of : List (TurnCell HalfState) → List Ended → List CellEnd
ends_of (cell ∷ cells) (e ∷ ended) = end_of cell e ∷ ends_of cells ended
ends_of _ _ = []

-- what one worker left stands behind all before
pub record Puts (cell : TurnCell HalfState) (ended : Ended) (old new : Sorted) : Type 0 where
  pub seats : new.seats.items ≡ old.seats.items ++ ended.seat ∷ []
  pub counts : new.counts.items ≡ old.counts.items ++ ended.counts ∷ []
  pub gauges : new.gauges.items ≡ old.gauges.items ++ ended.gauges ∷ []
  pub ends : new.ends.items ≡ old.ends.items ++ end_of cell ended ∷ []

-- what these workers left stands behind all before, in their order
pub record Sorts (cells : List (TurnCell HalfState)) (ended : List Ended) (old new : Sorted) : Type 0 where
  pub seats : new.seats.items ≡ old.seats.items ++ map (λ e. e.seat) ended
  pub counts : new.counts.items ≡ old.counts.items ++ map (λ e. e.counts) ended
  pub gauges : new.gauges.items ≡ old.gauges.items ++ map (λ e. e.gauges) ended
  pub ends : new.ends.items ≡ old.ends.items ++ ends_of cells ended

-- nothing yet, and room for what so many workers left and for two seats more
pub record IsEmptyFor (workers : ℕ) (s : Sorted) : Type 0 where
  pub none : (s.seats.items ≡ []) × (s.counts.items ≡ []) × (s.gauges.items ≡ []) × (s.ends.items ≡ [])
  pub room : HasRoomFor (workers + 2) s

-- All is sorted: the store's seat of the book stands before those of the workers, and the reader's seats behind theirs.
pub record AreSorted (store reader : LockedBook) (reader_gauges : GaugeSeat) (cells : List (TurnCell HalfState))
    (ended : List Ended) (s : Sorted) : Type 0 where
  pub seats : s.seats.items ≡ store ∷ (map (λ e. e.seat) ended ++ reader ∷ [])
  pub counts : s.counts.items ≡ map (λ e. e.counts) ended
  pub gauges : s.gauges.items ≡ map (λ e. e.gauges) ended ++ reader_gauges ∷ []
  pub ends : s.ends.items ≡ ends_of cells ended
