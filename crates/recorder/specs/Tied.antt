-- A worker's recorder as a store deals it, and what it leaves when it is done (this project's own).
use Rattle.std.specs.Prelude.{◌≡◌, ℕ, suc, ◌≤◌, []}
use Rattle.seat_history.specs.declared.known.LogKnown.{LogKnown}
use Rattle.locked_book.specs.Sharing.{known_by}
use Rattle.metric_words.specs.CounterLedger.{worker_part}
use Rattle.metric_words.specs.GaugeLedger.{gauge_known}
use Rattle.turn_cell.specs.Tokens.{note_known}
use Rattle.half_side.specs.Halves.{value_count}
use Rattle.book_seat.specs.Following.{HasFollowed}
use Rattle.book_seat.specs.Polling.{Ends}
use Rattle.ledger.specs.Work.{events_in, verdicts_in}
use Rattle.run_ledger.specs.Accounts.{DidItsWork}
use Rattle.store_parts.specs.Ids.{ids_of, HasCell}
use Rattle.store_parts.specs.declared.store.Store.{Store}
use Rattle.recorder.specs.declared.ended.Ended.{Ended}
use Rattle.recorder.specs.declared.limits.TheConstants.{MAX_GIVEN}
use Rattle.recorder.specs.Ending.{store_of, side_of, told_at_end}
use Rattle.recorder.specs.Following.{HasFollowedAll}
use Rattle.recorder.specs.Knowing.{RecorderKnown, HasItsCell}
use Rattle.recorder.specs.RecorderKept.{AddsToMade}

-- the recorder of the store's worker w, whose cell is at that worker's place; workers are numbered from 1
pub record IsWorkerOf (store : Store) (w : ℕ) (r : RecorderKnown) : Type 0 where
  pub of : r.of ≡ ids_of store
  pub number : r.seat.number ≡ w
  pub place : suc r.place ≡ w
  pub cell : HasItsCell store r

-- it was given no event yet; its seat of the gauges has its number too
pub record IsNewWorker (store : Store) (w : ℕ) (r : RecorderKnown) : Type 0 where
  pub worker : IsWorkerOf store w r
  pub gauges : r.gauges.seat ≡ w
  pub work : r.work ≡ []
  pub given : r.given ≡ 0
  pub followed : HasFollowedAll r

-- What the store's worker w left: its seat has ended, and it did its work. It added to counters alone, those that the
-- log made, took in no other seat of the gauges, and has no more values than a file events. Events of it may have been
-- refused.
pub record HasEnded (store : Store) (w : ℕ) (ended : Ended) : Type 0 where
  pub of : store_of ended ≡ ids_of store
  pub number : (known_by ended.seat).number ≡ w
  pub place : ℕ
  pub at : suc place ≡ w
  pub cell : HasCell store place (note_known ended.note).cell
  pub before : LogKnown
  pub ends : Ends before (known_by ended.seat)
  pub did : DidItsWork (told_at_end ended)
  pub made : AddsToMade (known_by ended.seat) (worker_part ended.counts)
  pub alone : (gauge_known ended.gauges).taken ≡ []
  pub few : value_count (side_of ended) ≤ MAX_GIVEN

-- the seat ended behind the entries of its events
pub record HasFollowedToEnd (ended : Ended) : Type 0 where
  pub before : LogKnown
  pub followed : HasFollowed before (events_in ended.work.items) (verdicts_in ended.work.items)
  pub ends : Ends before (known_by ended.seat)
