-- A seat's call of its book, as the seat knows it (this project's own).
use Rattle.std.specs.Prelude.{◌≡◌, ℕ}
use Rattle.stat_defs.specs.Books.{BookHistory}
use Rattle.book_state.specs.State.{State, Seat}
use Rattle.book_state.specs.Step.{Working, Works}
use Rattle.stat_book.specs.Calls.{state_of, IsLegal, openings_by}
use Rattle.seat_history.specs.declared.known.LogKnown.{LogKnown}
use Rattle.seat_history.specs.History.{known_history, Finds, found_log, left_log}

-- the state of the book as the seat found or left it last
abbrev pub known_state : LogKnown → State
known_state k = state_of (known_history k)

-- by the log that it knows, the seat is a worker's that has not ended, and this holds of it
abbrev pub WorkingUnder : LogKnown → (Seat → Type 0) → Type 0
WorkingUnder k May = Working (known_state k) k.number May

abbrev pub WorksUnder : LogKnown → Type 0
WorksUnder k = Works (known_state k) k.number

-- how many scopes the seat asked to open, by the log that it knows
abbrev pub opened : LogKnown → ℕ
opened k = openings_by k.number k.known

-- One call: the seat found a book, which went on from the log that it knew by entries of others alone, and left the book
-- that its call, under its number, made of it, with a legal log.
pub record Calls (Makes : ℕ → BookHistory → BookHistory → Type 0) (k k' : LogKnown) : Type 0 where
  pub found : BookHistory
  pub finds : Finds k found
  pub last : BookHistory
  pub makes : Makes k.number found last
  pub legal : IsLegal last
  pub leaves : k' ≡ left_log last.log (found_log found.log k)
