-- How the log that a seat knows grows between two of its calls (this project's own).
use Rattle.std.specs.Prelude.{◌≡◌, ◌≤◌, ◌+◌, ℕ, List, [], ◌++◌}
use Rattle.stat_defs.specs.declared.history.Entry.{Entry}
use Rattle.book_state.specs.Follows.{Own, own}
use Rattle.stat_book.specs.Calls.{rules_of, IsLegal}
use Rattle.seat_history.specs.declared.known.LogKnown.{LogKnown}
use Rattle.seat_history.specs.History.{known_history, first_history, entries_by}
use Rattle.book_access.specs.Calling.{known_state, WorksUnder, opened}

-- The seat stays the same one. The log that it knows goes on by entries of others and by those that its own calls made,
-- which are such as this asks. It never knows of fewer releases.
pub record Grows (k : LogKnown) (Asks : List Own → Type 0) (k' : LogKnown) : Type 0 where
  pub number : k'.number ≡ k.number
  pub first : first_history k' ≡ first_history k
  pub more : List Entry
  pub known : k'.known ≡ k.known ++ more
  pub made : k'.made ≡ k.made ++ entries_by k.number more
  pub seen : k.seen ≤ k'.seen
  pub asked : Asks (own (rules_of (known_history k)) k.number (known_state k) more)

-- its calls made nothing
abbrev pub MakesNothing : List Own → Type 0
MakesNothing made = made ≡ []

-- a worker's seat that has not ended, in a log that is legal, and that asked to open no more than this number of scopes
pub record StaysAtWork (scopes : ℕ) (k k' : LogKnown) : Type 0 where
  pub works : WorksUnder k'
  pub legal : IsLegal (known_history k')
  pub opened : opened k' ≤ opened k + scopes
