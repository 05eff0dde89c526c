-- What a lone worker keeps.
use Rattle.std.specs.Prelude.{◌≡◌, ◌≤◌, true, false, length}
use Rattle.book_state.specs.Step.{Works}
use Rattle.stat_book.specs.Calls.{state_of, openings_by}
use Rattle.plain_store.specs.declared.worker.LoneWorker.TheInside.{Inside}
use Rattle.plain_store.specs.Worker.{WorkerHistory, IsFollowed}

abbrev pub shown : Inside → WorkerHistory
shown w = record {
  book = w.seat.book;
  events = w.events.items;
  verdicts = w.verdicts.items;
  ended = w.ended;
  whole = w.whole;
}

pub record IsKept (w : Inside) : Type 0 where
  pub one_worker : w.seat.book.workers ≡ 1
  pub number : w.seat.number ≡ 1
  pub works : w.ended ≡ false → Works (state_of w.seat.book) 1
  pub few_openings : openings_by 1 w.seat.book.log ≤ length w.events.items
  pub a_verdict_each : length w.verdicts.items ≡ length w.events.items
  -- said of a worker none of whose events was cut short
  pub followed : w.whole ≡ true → IsFollowed (shown w)
