-- What the seat of a lone worker, seat 1, leaves of its book. This project's own.
use Rattle.std.specs.Prelude.{◌≡◌, ◌≤◌, ◌+◌, ℕ}
use Rattle.stat_defs.specs.declared.events.Event.{Event}
use Rattle.stat_defs.specs.declared.history.Verdict.{Verdict}
use Rattle.book_state.specs.Step.{Works}
use Rattle.stat_book.specs.Calls.{state_of, openings_by}
use Rattle.book_access.specs.declared.owned.OwnedBook.{OwnedBook}
use Rattle.book_seat.specs.Naming.{NamesOwn}
use Rattle.plain_store.specs.Entries.{Adds, IsLeftOf, Applies}

-- it is the same seat, it works, and it asked to open no more than this number of scopes
pub record StaysAlone (scopes : ℕ) (old new : OwnedBook) : Type 0 where
  pub number : new.number ≡ 1
  pub works : Works (state_of new.book) 1
  pub openings : openings_by 1 new.book.log ≤ openings_by 1 old.book.log + scopes

-- an event was decided; a metric that its verdict names is there
pub record AppliesAlone (e : Event) (v : Verdict) (old new : OwnedBook) : Type 0 where
  pub applied : Applies old.book e v new.book
  pub names : NamesOwn (state_of new.book) e v
  pub stays : StaysAlone 1 old new

-- an event was cut short by want of memory
pub record CutsAlone (e : Event) (old new : OwnedBook) : Type 0 where
  pub left : Adds old.book (IsLeftOf e) new.book
  pub stays : StaysAlone 0 old new
