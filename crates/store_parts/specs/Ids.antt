-- What the tokens of a store are tied to (this project's own).
use Rattle.std.specs.Prelude.{◌≡◌, ℕ, slice_get}
use Rattle.std.specs.Option.{IsSomeAnd}
use Rattle.atomic_table.specs.Seated.{TableId}
use Rattle.book_lock.specs.Seats.{lock_id, seat_lock}
use Rattle.locked_book.specs.declared.shared.LockedBook.{LockedBook}
use Rattle.metric_words.specs.CounterLedger.{bank_id}
use Rattle.metric_words.specs.GaugeLedger.{gauges_id}
use Rattle.turn_cell.specs.Tokens.{cell_id}
use Rattle.store_parts.specs.declared.store.Store.{Store}

-- the lock of its book, and its banks
pub record StoreIds : Type 0 where
  pub lock : TableId
  pub counters : TableId
  pub gauges : TableId

abbrev pub ids_of : Store → StoreIds
ids_of store = record {
  lock = lock_id store.book.lock;
  counters = bank_id store.counters;
  gauges = gauges_id store.gauges;
}

-- the lock of a seat of the book
abbrev pub lock_of : LockedBook → TableId
lock_of seat = seat_lock seat.seat

-- the cell at this place among those of the store; places begin at 0
abbrev pub HasCell : Store → ℕ → TableId → Type 0
HasCell store place cell = IsSomeAnd (slice_get store.cells.items place) (λ c. cell_id c ≡ cell)
