-- The parts of a new store before they are dealt (this project's own).
use Rattle.std.specs.Prelude.{◌≡◌, ℕ, ◌+◌, ◌≤◌, length}
use Rattle.stat_defs.specs.Books.{BookHistory}
use Rattle.book_state.specs.declared.limits.TheConstants.{MAX_METRICS, MAX_WORKERS}
use Rattle.stat_book.specs.Calls.{new_book, IsLegal}
use Rattle.locked_book.specs.Sharing.{first_of, seat_count, AreNewSeats}
use Rattle.metric_words.specs.CounterLedger.{bank_id, size_of, workers_of, AreNew}
use Rattle.metric_words.specs.GaugeLedger.{gauges_id, gauges_size, gauges_workers, AreNewGauges}
use Rattle.store_opening.specs.declared.book.BookDeal.{BookDeal}
use Rattle.store_opening.specs.declared.words.Words.{Words}
use Rattle.store_opening.specs.declared.cells.CellDeal.{CellDeal}
use Rattle.store_opening.specs.declared.making.Made.{Made}
use Rattle.store_opening.specs.Cells.{AreNewCells}

-- a seat for the store, for each of so many workers and for the reader
pub record IsBookDeal (workers : ℕ) (deal : BookDeal) : Type 0 where
  pub legal : IsLegal (first_of deal.book)
  pub count : seat_count deal.book ≡ workers + 2
  pub new : AreNewSeats deal.book (workers + 2) deal.seats.items

-- banks for so many workers, with a word for each metric of a book, and all their seats
pub record AreWords (workers : ℕ) (words : Words) : Type 0 where
  pub counter_words : (size_of words.counters ≡ MAX_METRICS) × (workers_of words.counters ≡ workers)
  pub gauge_words : (gauges_size words.gauges ≡ MAX_METRICS) × (gauges_workers words.gauges ≡ workers)
  pub new_counts : AreNew (bank_id words.counters) workers words.counts
  pub new_levels : AreNewGauges (gauges_id words.gauges) workers words.levels

-- the parts of a store whose book was made with this history, for its workers
pub record ArePartsFor (first : BookHistory) (book : BookDeal) (words : Words) (cells : CellDeal) : Type 0 where
  pub new : first ≡ new_book first.config first.workers
  pub new_seats : IsBookDeal first.workers book
  pub new_words : AreWords first.workers words
  pub new_cells : AreNewCells cells.cells.items cells.sides.items cells.tokens.items
  pub count : (length cells.cells.items ≡ first.workers) × (first.workers ≤ MAX_WORKERS)

-- a store, with all seats and tokens of its parties, which have done nothing
pub record IsMade (made : Made) : Type 0 where
  pub legal : IsLegal (first_of made.store.book)
  pub few : length made.store.cells.items ≤ MAX_WORKERS
  pub seats : AreNewSeats made.store.book (length made.store.cells.items + 2) made.seats.items
  pub counts : AreNew (bank_id made.store.counters) (length made.store.cells.items) made.counts
  pub levels : AreNewGauges (gauges_id made.store.gauges) (length made.store.cells.items) made.levels
  pub cells : AreNewCells made.store.cells.items made.sides.items made.tokens.items
