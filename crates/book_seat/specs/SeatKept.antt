-- What a worker's seat keeps between its calls (this project's own).
use Rattle.std.specs.Prelude.{◌≡◌, ◌≤◌, ◌<◌, ℕ, List}
use Rattle.stat_defs.specs.Books.{releases_in}
use Rattle.stat_defs.specs.Keys.{Held}
use Rattle.book_state.specs.State.{held_in}
use Rattle.book_state.specs.Laws.{AreOfOthers}
use Rattle.stat_book.specs.Calls.{IsLegal}
use Rattle.thread_cache.specs.SameHeld.{SameHeld}
use Rattle.seat_history.specs.declared.known.LogKnown.{LogKnown}
use Rattle.seat_history.specs.History.{known_history}
use Rattle.book_access.specs.Calling.{known_state}
use Rattle.book_seat.specs.Polling.{tag_in}

-- its cache gives what it holds by the log that it knows, which is legal, and its tag is that of the log
pub record IsKept (k : LogKnown) (cached : List Held) (tag : ℕ) : Type 0 where
  pub held : SameHeld cached (held_in (known_state k) k.number)
  pub tagged : tag ≡ tag_in k
  pub legal : IsLegal (known_history k)
  pub fewest : releases_in k.known ≤ k.seen

-- a seat of one of the book's workers that has made no call
pub record IsNewSeat (k : LogKnown) : Type 0 where
  pub worker : (0 < k.number) × (k.number ≤ k.workers)
  pub others : AreOfOthers k.number k.known
  pub legal : IsLegal (known_history k)
  pub fewest : releases_in k.known ≤ k.seen
