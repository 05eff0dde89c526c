-- The two workers follow their events, and did their work.
use Rattle.std.proofs.Common.{◌≡◌, ℕ, true, List, [], ◌∷◌, ◌++◌, take, drop, refl, inl, arith}
use Rattle.std.specs.List.{list_all}
use Rattle.stat_defs.specs.declared.history.Entry.{Entry}
use Rattle.metric_words.specs.declared.counter_view.CountKind.TheVariants as count
use Rattle.metric_words.specs.Counters.{step_of}
use Rattle.metric_words.specs.declared.gauge_view.GaugeKind.TheVariants as gauge
use Rattle.metric_words.specs.Gauges.{gauge_step}
use Rattle.book_state.specs.Log.{empty, fits_seat, replay_from, Run, Legal}
use Rattle.book_state.specs.Follows.{Own, own, Follows}
use Rattle.book_state.specs.Worked.{plain, root_alone}
use Rattle.std.specs.Prelude.{codes}
use Rattle.book_state.proofs.Computed.{drawn_all}
use Rattle.book_state.proofs.WorkedParts.{legal_log, link}
use Rattle.ledger.specs.Worked.{accepted, sets}
use Rattle.run_ledger.specs.Told.{WorkerTold}
use Rattle.run_ledger.specs.Accounts.{DidItsWork}
use Rattle.run_ledger.proofs.Grows.{run_grows}
use Rattle.worked_runs.specs.Run.{records_7, adds, first_events, second_events, first_verdicts, second_verdicts, log_of_run, counts_of, gauges_of, seat_with, first_told, second_told}

made_by : ℕ → ℕ → List Entry → List Own
made_by seat from log = take 1 (drop from (own plain seat (empty 2) log))

pub first_follows : Follows plain 2 1 first_events first_verdicts first_told.seat.known
unfolding made_by
first_follows = record {
  entries = _;
  of_events = record {
    applied = link (adds 2) (accepted 1) []
        ∷ link (sets 5) (accepted 2) (made_by 1 2 first_told.seat.known)
        ∷ link (adds 3) (accepted 1) (made_by 1 1 first_told.seat.known)
        ∷ link records_7 (accepted 0) (made_by 1 0 first_told.seat.known)
        ∷ [];
    chain = ((((tt, inl (omega arith, (refl, refl, refl))), inl (omega arith, (refl, refl, refl))), inl (omega arith, (refl, refl, refl))), inl (omega arith, (refl, refl)));
    events_are = refl;
    verdicts_are = refl;
    entries_are = refl;
  };
  last = _;
  ends = refl;
  own_are = refl;
}

pub second_follows : Follows plain 2 2 second_events second_verdicts second_told.seat.known
unfolding made_by
second_follows = record {
  entries = _;
  of_events = record {
    applied = link (sets 9) (accepted 2) (made_by 2 2 second_told.seat.known)
        ∷ link records_7 (accepted 0) (made_by 2 1 second_told.seat.known)
        ∷ link (adds 4) (accepted 1) (made_by 2 0 second_told.seat.known)
        ∷ [];
    chain = (((tt, inl (omega arith, (refl, refl, refl))), inl (omega arith, (refl, refl, refl))), inl (omega arith, (refl, refl, refl)));
    events_are = refl;
    verdicts_are = refl;
    entries_are = refl;
  };
  last = _;
  ends = refl;
  own_are = refl;
}

-- the entries before the workers end
abbrev working : List Entry
working = take 9 log_of_run

-- whatever steps come behind them
pub legal_with : (rest : List Entry) → list_all (fits_seat 2) (drop 1 working ++ rest) ≡ true
    → Run plain (replay_from plain (empty 2) working) rest → Legal plain root_alone 2 (working ++ rest)
legal_with rest fits steps = legal_log 2 (drop 1 working ++ rest) fits (
  (inl refl, refl, refl),
  (
    ((refl, refl), (refl, drawn_all [] (codes "h" ∷ []) (1 ∷ []) refl)),
    (
      ((refl, refl), (refl, drawn_all ((codes "h", 1) ∷ []) (codes "a" ∷ []) (2 ∷ []) refl)),
      (
        (refl, refl),
        (
          ((refl, refl), refl),
          (
            ((refl, refl), refl),
            (
              (refl, refl),
              (
                ((refl, refl), (refl, drawn_all ((codes "h", 1) ∷ (codes "a", 2) ∷ []) (codes "g" ∷ []) (3 ∷ []) refl)),
                (((refl, refl), refl), steps),
              ),
            ),
          ),
        ),
      ),
    ),
  ),
)

pub legal : Legal plain root_alone 2 log_of_run
legal = legal_with (drop 9 log_of_run) refl ((refl, tt), ((refl, tt), ((refl, refl), tt)))

-- each worker from nothing on, by one event after the other
abbrev nothing_done : ℕ → WorkerTold
nothing_done seat = record { work = []; seat = seat_with seat []; counts = counts_of seat []; gauges = gauges_of seat []; turned = []; active = [] }

none_done : (seat : ℕ) → DidItsWork (nothing_done seat)
none_done seat = record { adds = λ id. refl; moves = λ id. refl; values = refl }

abbrev first_recorded : WorkerTold
first_recorded = record (nothing_done 1) { work = (records_7, accepted 0) ∷ []; active = (0, 7) ∷ [] }

abbrev first_turned : WorkerTold
first_turned = record first_recorded { turned = ((0, 7) ∷ []) ∷ []; active = [] }

abbrev first_added : WorkerTold
first_added = record first_turned {
  work = (records_7, accepted 0) ∷ (adds 3, accepted 1) ∷ [];
  counts = counts_of 1 (step_of count.Second 1 3 0 ∷ step_of count.First 1 3 0 ∷ []);
}

abbrev first_set : WorkerTold
first_set = record first_added {
  work = (records_7, accepted 0) ∷ (adds 3, accepted 1) ∷ (sets 5, accepted 2) ∷ [];
  gauges = gauges_of 1 (gauge_step gauge.Set 2 5 9 ∷ []);
}

pub first_did : DidItsWork first_told
first_did =
    run_grows.event first_set (adds 2, accepted 1) first_told
    (run_grows.event first_added (sets 5, accepted 2) first_set
    (run_grows.event first_turned (adds 3, accepted 1) first_added
    (run_grows.turn first_recorded first_turned
    (run_grows.event (nothing_done 1) (records_7, accepted 0) first_recorded (none_done 1)
    (record { work = refl; adds = refl; moves = refl; records = refl; turned = refl }))
    (record { work = refl; counts = refl; gauges = refl; turned = refl; active = refl }))
    (record { work = refl; adds = (0, 0, refl); moves = refl; records = refl; turned = refl }))
    (record { work = refl; adds = refl; moves = (9, refl); records = refl; turned = refl }))
    (record { work = refl; adds = (7, 0, refl); moves = refl; records = refl; turned = refl })

abbrev second_added : WorkerTold
second_added = record (nothing_done 2) {
  work = (adds 4, accepted 1) ∷ [];
  counts = counts_of 2 (step_of count.Second 1 4 0 ∷ step_of count.First 1 4 3 ∷ []);
}

abbrev second_recorded : WorkerTold
second_recorded = record second_added { work = (adds 4, accepted 1) ∷ (records_7, accepted 0) ∷ []; active = (0, 7) ∷ [] }

abbrev second_turned : WorkerTold
second_turned = record second_recorded { turned = ((0, 7) ∷ []) ∷ []; active = [] }

pub second_did : DidItsWork second_told
second_did =
    run_grows.event second_turned (sets 9, accepted 2) second_told
    (run_grows.turn second_recorded second_turned
    (run_grows.event second_added (records_7, accepted 0) second_recorded
    (run_grows.event (nothing_done 2) (adds 4, accepted 1) second_added (none_done 2)
    (record { work = refl; adds = (3, 0, refl); moves = refl; records = refl; turned = refl }))
    (record { work = refl; adds = refl; moves = refl; records = refl; turned = refl }))
    (record { work = refl; counts = refl; gauges = refl; turned = refl; active = refl }))
    (record { work = refl; adds = refl; moves = (0, refl); records = refl; turned = refl })
