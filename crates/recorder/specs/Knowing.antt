-- What a recorder knows (this project's own). Its own calls alone change it.
use Rattle.std.specs.Prelude.{ℕ}
use Rattle.seat_history.specs.declared.known.LogKnown.{LogKnown}
use Rattle.metric_words.specs.declared.counter_view.CountPart.{CountPart}
use Rattle.metric_words.specs.declared.gauge_view.GaugePart.{GaugePart}
use Rattle.half_side.specs.Halves.{HalfKnown, turned_in}
use Rattle.ledger.specs.Work.{Work}
use Rattle.run_ledger.specs.Told.{WorkerTold}
use Rattle.store_parts.specs.Ids.{StoreIds, HasCell}
use Rattle.store_parts.specs.declared.store.Store.{Store}

-- The store that it is of; the events that it decided, with their verdicts; what its seat knows of the book's log; its
-- seats of the counters and of the gauges; its token of its cell and its active half; the place of its cell; and how
-- many events it was given, those among them that were cut short.
pub record RecorderKnown : Type 0 where
  pub of : StoreIds
  pub work : Work
  pub seat : LogKnown
  pub counts : CountPart
  pub gauges : GaugePart
  pub side : HalfKnown
  pub place : ℕ
  pub given : ℕ

-- what it can tell once it has ended
abbrev pub told_by : RecorderKnown → WorkerTold
told_by r = record {
  work = r.work;
  seat = r.seat;
  counts = r.counts;
  gauges = r.gauges;
  turned = turned_in r.side;
  active = r.side.active.values;
}

-- the store has its cell at its place
abbrev pub HasItsCell : Store → RecorderKnown → Type 0
HasItsCell store r = HasCell store r.place r.side.cell.cell
