-- How the parts of a store fit together (this project's own).
use Rattle.std.specs.Prelude.{◌≡◌, ℕ, ◌+◌, ◌<◌}
use Rattle.stat_defs.specs.Books.{BookHistory}
use Rattle.book_state.specs.declared.limits.TheConstants.{MAX_METRICS}
use Rattle.stat_book.specs.Calls.{new_book}
use Rattle.locked_book.specs.declared.shared.SharedBook.{SharedBook}
use Rattle.locked_book.specs.Sharing.{first_of, seat_count}
use Rattle.metric_words.specs.declared.counter_bank.CounterBank.{CounterBank}
use Rattle.metric_words.specs.declared.gauge_bank.GaugeBank.{GaugeBank}
use Rattle.metric_words.specs.CounterLedger.{size_of, workers_of}
use Rattle.metric_words.specs.GaugeLedger.{gauges_size, gauges_workers}

-- A new book of a configuration behind the lock, which has a seat for the store, for each worker and for the reader;
-- banks for the same workers, with a word for each metric of the book; and so many cells, one for each worker.
pub record IsWhole (book : SharedBook) (counters : CounterBank) (gauges : GaugeBank) (count : ℕ) : Type 0 where
  pub new : first_of book ≡ new_book (first_of book).config (first_of book).workers
  pub seats : seat_count book ≡ (first_of book).workers + 2
  pub workers : (workers_of counters ≡ (first_of book).workers) × (gauges_workers gauges ≡ (first_of book).workers)
  pub sizes : (size_of counters ≡ MAX_METRICS) × (gauges_size gauges ≡ MAX_METRICS)
  pub cells : count ≡ (first_of book).workers
