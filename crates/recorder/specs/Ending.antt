-- What a recorder leaves at its end (this project's own).
use Rattle.std.specs.Prelude.{◌≡◌, ℕ, ◌≤◌, []}
use Rattle.ghost_list.specs.declared.GhostList.{GhostList}
use Rattle.stat_defs.specs.declared.events.Event.{Event}
use Rattle.stat_defs.specs.declared.history.Verdict.{Verdict}
use Rattle.locked_book.specs.declared.shared.LockedBook.{LockedBook}
use Rattle.locked_book.specs.Sharing.{known_by}
use Rattle.metric_words.specs.CounterLedger.{worker_known, worker_part}
use Rattle.metric_words.specs.GaugeLedger.{gauge_known, gauge_part}
use Rattle.turn_cell.specs.declared.view.TurnKind.TheVariants.{Leave}
use Rattle.turn_cell.specs.Tokens.{after_step, note_known}
use Rattle.half_side.specs.Halves.{HalfKnown, turned_in, value_count}
use Rattle.book_seat.specs.Polling.{Ends}
use Rattle.run_ledger.specs.Told.{WorkerTold}
use Rattle.run_ledger.specs.Accounts.{DidItsWork}
use Rattle.store_parts.specs.Ids.{StoreIds, lock_of}
use Rattle.recorder.specs.declared.ended.Ended.{Ended}
use Rattle.recorder.specs.declared.hand.Hand.{Hand}
use Rattle.recorder.specs.declared.limits.TheConstants.{MAX_GIVEN}
use Rattle.recorder.specs.Knowing.{RecorderKnown, told_by}
use Rattle.recorder.specs.RecorderKept.{AddsToMade}

abbrev pub store_of : Ended → StoreIds
store_of ended = record {
  lock = lock_of ended.seat;
  counters = (worker_known ended.counts).bank;
  gauges = (gauge_known ended.gauges).bank;
}

-- its halves: those that it turned, and its active one
abbrev pub side_of : Ended → HalfKnown
side_of ended = record { cell = note_known ended.note; active = ended.half }

-- what it tells
abbrev pub told_at_end : Ended → WorkerTold
told_at_end ended = record {
  work = ended.work.items;
  seat = known_by ended.seat;
  counts = worker_part ended.counts;
  gauges = gauge_part ended.gauges;
  turned = turned_in (side_of ended);
  active = ended.half.values;
}

-- the cell was left, and the seats and the active half are as they were
pub record LeavesHand (seat : LockedBook) (hand : Hand) (work : GhostList (Event × Verdict)) (ended : Ended) : Type 0 where
  pub word : ℕ
  pub left : note_known ended.note ≡ after_step Leave word hand.side.cell
  pub rest : ended ≡ record {
    seat = seat;
    counts = hand.counts;
    gauges = hand.gauges;
    note = ended.note;
    half = hand.side.active;
    work = work;
  }

-- Its seat ended, and its cell was left. All else that it tells is as it was, and accounts for its events; no counter was
-- added to that the log did not make, and no other seat of the gauges taken in.
pub record EndsIts (r : RecorderKnown) (ended : Ended) : Type 0 where
  pub of : store_of ended ≡ r.of
  pub ends : Ends r.seat (known_by ended.seat)
  pub word : ℕ
  pub left : side_of ended ≡ record { cell = after_step Leave word r.side.cell; active = r.side.active }
  pub told : told_at_end ended ≡ record (told_by r) { seat = known_by ended.seat }
  pub did : DidItsWork (told_at_end ended)
  pub made : AddsToMade (known_by ended.seat) (worker_part ended.counts)
  pub alone : (gauge_known ended.gauges).taken ≡ []
  pub few : value_count (side_of ended) ≤ MAX_GIVEN
