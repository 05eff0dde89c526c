-- What a reader of a store knows and tells (this project's own). Its own calls alone change it.
use Rattle.std.specs.Prelude.{◌≡◌, ℕ, ◌≤◌, List, [], ◌∷◌, ◌++◌, map}
use Rattle.std.specs.List.{AllByRecursion, flat_map}
use Rattle.std.specs.List.Sorted.{IsNonDecreasing}
use Rattle.atomic_table.specs.Seated.{TableId}
use Rattle.stat_defs.specs.declared.history.NameOp.{NameOp}
use Rattle.stat_defs.specs.declared.reports.ReadRecord.{ReadRecord}
use Rattle.stat_defs.specs.Changes.{GoesOnLater}
use Rattle.book_state.specs.declared.limits.TheConstants.{MAX_METRICS}
use Rattle.book_lock.specs.declared.view.LockPart.{LockPart}
use Rattle.book_lock.specs.Seats.{lock_id}
use Rattle.metric_words.specs.declared.counter_bank.CounterBank.{CounterBank}
use Rattle.metric_words.specs.declared.gauge_bank.GaugeBank.{GaugeBank}
use Rattle.metric_words.specs.CounterLedger.{CounterKnown, bank_id, size_of}
use Rattle.metric_words.specs.Gauges.{written}
use Rattle.metric_words.specs.GaugeLedger.{GaugeKnown, gauges_id, gauges_size}
use Rattle.locked_book.specs.declared.shared.SharedBook.{SharedBook}
use Rattle.flush_words.specs.Words.{after_loads, after_gauge_loads}
use Rattle.run_ledger.specs.Told.{words_on, words_loaded}
use Rattle.admin_side.specs.Shown.{Shows}
use Rattle.admin_side.specs.Looking.{BringsUp, Looks}

-- a reading, and the changes of names that it knew
pub record NamedRead : Type 0 where
  pub shown : ReadRecord
  pub names : List NameOp

-- The lock of its book; what its seats know of the book and of its names, with their steps, of the counters and of the
-- gauges; and its readings, in order.
pub record ReaderKnown : Type 0 where
  pub lock : TableId
  pub part : LockPart
  pub counters : CounterKnown
  pub gauges : GaugeKnown
  pub reads : List NamedRead

abbrev pub new_reader : TableId → LockPart → CounterKnown → GaugeKnown → ReaderKnown
new_reader lock part counters gauges = record {
  lock = lock;
  part = part;
  counters = counters;
  gauges = gauges;
  reads = [];
}

-- the same, whose seat of the book knows this and made these steps
abbrev pub with_part : LockPart → ReaderKnown → ReaderKnown
with_part part k = record {
  lock = k.lock;
  part = part;
  counters = k.counters;
  gauges = k.gauges;
  reads = k.reads;
}

-- its seats are of this book and of these banks, which have a word for each metric of the book
pub record IsReaderOf (book : SharedBook) (counters : CounterBank) (gauges : GaugeBank) (k : ReaderKnown)
    : Type 0 where
  pub lock : k.lock ≡ lock_id book.lock
  pub counters_bank : k.counters.bank ≡ bank_id counters
  pub gauges_bank : k.gauges.bank ≡ gauges_id gauges
  pub sizes : (MAX_METRICS ≤ size_of counters) × (MAX_METRICS ≤ gauges_size gauges)

-- it looked at the published changes of names, and did nothing else
pub record LooksOnly (k k' : ReaderKnown) : Type 0 where
  pub looks : Looks k.part k'.part
  pub rest : k' ≡ with_part k'.part k

-- One reading more. It loaded the number of the published changes of names once, and then the words of those past the
-- ones that it had; and then it loaded each counter and each gauge that is not gone by all of them once, and shows what
-- its loads found.
pub record Reads (shown : ReadRecord) (k k' : ReaderKnown) : Type 0 where
  pub had : List NameOp
  pub changes : BringsUp had k.part k'.part
  pub shows : Shows k'.part.names shown
  pub told : k' ≡ record {
    lock = k.lock;
    part = k'.part;
    counters = after_loads shown.counters k.counters;
    gauges = after_gauge_loads shown.gauges k.gauges;
    reads = k.reads ++ record { shown = shown; names = k'.part.names } ∷ [];
  }

-- a reading shows what the changes give that it knew, and these changes go on, later, to be all of these
pub record IsReadingOf (all : List NameOp) (read : NamedRead) : Type 0 where
  pub known : GoesOnLater read.names all
  pub shows : Shows read.names read.shown

-- What is true of a reader at every moment: its readings of a counter are what its loads of it found, in order; each
-- reading is of changes that its seat knows, and none of fewer entries of the log than an earlier one; and it has written
-- no gauge, and taken in no other seat.
pub record ReaderAccounts (k : ReaderKnown) : Type 0 where
  pub loaded : (id : ℕ) → words_loaded id k.counters.own.steps
      ≡ flat_map (λ read. words_on id read.shown.counters) k.reads
  pub each : AllByRecursion (IsReadingOf k.part.names) k.reads
  pub rise : IsNonDecreasing (map (λ read. read.shown.at) k.reads)
  pub idle : (id : ℕ) → written id k.gauges.own.steps ≡ 0
  pub alone : k.gauges.taken ≡ []
