-- What a recorder keeps.
use Rattle.std.specs.Prelude.{◌≡◌, ◌⊎◌, ℕ, ◌*◌, ◌^◌, ◌≤◌, [], slice_get}
use Rattle.std.specs.Option.{IsSomeAnd}
use Rattle.stat_defs.specs.declared.ids.Kind.TheVariants.{Counter}
use Rattle.book_state.specs.State.{State}
use Rattle.stat_book.specs.Calls.{IsLegal}
use Rattle.seat_history.specs.declared.known.LogKnown.{LogKnown}
use Rattle.seat_history.specs.History.{known_history}
use Rattle.book_access.specs.Calling.{known_state, WorksUnder, opened}
use Rattle.locked_book.specs.Sharing.{known_by}
use Rattle.metric_words.specs.declared.counter_view.CountPart.{CountPart}
use Rattle.metric_words.specs.Counters.{firsts}
use Rattle.metric_words.specs.CounterLedger.{worker_known, worker_part}
use Rattle.metric_words.specs.GaugeLedger.{gauge_known, gauge_part}
use Rattle.half_side.specs.Halves.{value_count}
use Rattle.run_ledger.specs.Accounts.{DidItsWork}
use Rattle.store_parts.specs.Ids.{lock_of}
use Rattle.recorder.specs.declared.limits.TheConstants.{MAX_GIVEN}
use Rattle.recorder.specs.declared.recorder.Recorder.TheInside.{Inside}
use Rattle.recorder.specs.Knowing.{RecorderKnown, told_by}

abbrev pub shown : Inside → RecorderKnown
shown r = record {
  of = record {
    lock = lock_of r.seat;
    counters = (worker_known r.hand.counts).bank;
    gauges = (gauge_known r.hand.gauges).bank;
  };
  work = r.work.items;
  seat = known_by r.seat;
  counts = worker_part r.hand.counts;
  gauges = gauge_part r.hand.gauges;
  side = r.hand.side;
  place = r.place;
  given = r.given;
}

-- a counter of this number was made
abbrev pub IsCounterIn : State → ℕ → Type 0
IsCounterIn s id = IsSomeAnd (slice_get s.metrics id) (λ row. row.metric.kind ≡ Counter)

-- each number to which something was added is that of a counter which the log that the seat knows made
abbrev pub AddsToMade : LogKnown → CountPart → Type 0
AddsToMade k counts = (id : ℕ) → (firsts id counts.steps ≡ 0) ⊎ IsCounterIn (known_state k) id

pub record IsKept (r : Inside) : Type 0 where
  pub did : DidItsWork (told_by (shown r))
  pub works : WorksUnder (known_by r.seat)
  pub legal : IsLegal (known_history (known_by r.seat))
  pub made : AddsToMade (known_by r.seat) (worker_part r.hand.counts)
  -- it has taken in no other seat of the gauges
  pub alone : (gauge_known r.hand.gauges).taken ≡ []
  -- bounds by the number of events that it was given
  pub units : (id : ℕ) → firsts id (worker_part r.hand.counts).steps ≤ 2 ^ 32 * r.given
  pub values : value_count r.hand.side ≤ r.given
  pub openings : opened (known_by r.seat) ≤ r.given
  pub few : r.given ≤ MAX_GIVEN
