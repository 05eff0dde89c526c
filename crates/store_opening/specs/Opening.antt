-- A store as it is opened, with its parties (this project's own).
use Rattle.std.specs.Prelude.{◌≡◌, ℕ, ◌+◌, None, List, [], length}
use Rattle.stat_defs.specs.declared.configs.Config.{Config}
use Rattle.stat_book.specs.Calls.{new_book}
use Rattle.locked_book.specs.declared.shared.LockedBook.{LockedBook}
use Rattle.locked_book.specs.Sharing.{first_of, known_by}
use Rattle.metric_words.specs.declared.counter_seats.FlushSeat.{FlushSeat}
use Rattle.metric_words.specs.declared.gauge_seats.GaugeSeat.{GaugeSeat}
use Rattle.metric_words.specs.CounterLedger.{flush_known}
use Rattle.metric_words.specs.GaugeLedger.{gauge_known}
use Rattle.flush_cells.specs.declared.tokens.FlushCell.{FlushCell}
use Rattle.ledger.specs.Lists.{EachNumbered}
use Rattle.store_parts.specs.declared.store.Store.{Store}
use Rattle.store_parts.specs.Ids.{lock_of}
use Rattle.recorder.specs.Tied.{IsNewWorker}
use Rattle.admin_side.specs.Reader.{ReaderKnown, IsReaderOf}
use Rattle.flusher.specs.Flusher.{FlusherKnown, IsFlusherOf, new_flusher}
use Rattle.store_opening.specs.declared.opening.Opened.{Opened}

-- the flusher of the store, whose seat of the gauges is the first, and which has begun no round
pub record IsNewFlusher (store : Store) (k : FlusherKnown) : Type 0 where
  pub of : IsFlusherOf store k
  pub gauges : k.gauges.own.seat ≡ 0
  pub flushes : k.flushes ≡ []
  pub round : k.round ≡ None

-- the reader of the store, whose seats of the book and of the gauges have this number, and which has made no reading
pub record IsNewReader (store : Store) (n : ℕ) (k : ReaderKnown) : Type 0 where
  pub of : IsReaderOf store.book store.counters store.gauges k
  pub number : k.part.seat.number ≡ n
  pub gauges : k.gauges.own.seat ≡ n
  pub reads : k.reads ≡ []

-- a recorder for each worker of the store, and its flusher and reader; the reader's seats are behind the workers'
pub record ArePartiesOf (opened : Opened) : Type 0 where
  pub recorders : EachNumbered (IsNewWorker opened.store) 1 opened.recorders.items
  pub count : length opened.recorders.items ≡ (first_of opened.store.book).workers
  pub flusher : IsNewFlusher opened.store opened.flusher
  pub reader : IsNewReader opened.store ((first_of opened.store.book).workers + 1) opened.admin

-- the book of the store is a new one of this configuration for so many workers
pub record Opens (config : Config) (workers : ℕ) (opened : Opened) : Type 0 where
  pub book : first_of opened.store.book ≡ new_book config workers
  pub recorders : EachNumbered (IsNewWorker opened.store) 1 opened.recorders.items
  pub count : length opened.recorders.items ≡ workers
  pub flusher : IsNewFlusher opened.store opened.flusher
  pub reader : IsNewReader opened.store (workers + 1) opened.admin

-- what is made of the store's seats and of these tokens
abbrev pub flusher_of : LockedBook → FlushSeat → GaugeSeat → List FlushCell → FlusherKnown
flusher_of seat counters gauges tokens = new_flusher
    (record {
      lock = lock_of seat;
      counters = (flush_known counters).bank;
      gauges = (gauge_known gauges).bank;
    })
    (known_by seat) (flush_known counters) (gauge_known gauges) tokens
