-- What a reader keeps.
use Rattle.std.specs.Prelude.{map}
use Rattle.stat_defs.specs.Changes.{GoesOnLater}
use Rattle.book_lock.specs.Seats.{seat_lock}
use Rattle.metric_words.specs.CounterLedger.{read_known}
use Rattle.metric_words.specs.GaugeLedger.{gauge_known}
use Rattle.locked_book.specs.Sharing.{part_of, names_by}
use Rattle.admin_side.specs.declared.admin.ReadNote.{ReadNote}
use Rattle.admin_side.specs.declared.admin.Admin.TheInside.{Inside}
use Rattle.admin_side.specs.Reader.{NamedRead, ReaderKnown, ReaderAccounts}

abbrev pub named_by : ReadNote → NamedRead
named_by note = record { shown = note.shown; names = note.names }

abbrev pub shown : Inside → ReaderKnown
shown a = record {
  lock = seat_lock a.seat.seat;
  part = part_of a.seat;
  counters = read_known a.words.counters;
  gauges = gauge_known a.words.gauges;
  reads = map named_by a.reads.items;
}

-- the names that it has are those of changes that its seat knows
pub record IsKept (a : Inside) : Type 0 where
  pub accounts : ReaderAccounts (shown a)
  pub names : GoesOnLater a.names (names_by a.seat)
