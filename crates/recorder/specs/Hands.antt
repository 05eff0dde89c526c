-- What an event with its verdict makes of a worker's seats of the banks and of its halves.
use Rattle.std.specs.Prelude.{◌≡◌, ℕ, ◌+◌, ◌^◌, ◌<◌, ◌≤◌, List}
use Rattle.stat_defs.specs.declared.events.Event.{Event}
use Rattle.stat_defs.specs.declared.events.Event.TheVariants.{Rec}
use Rattle.stat_defs.specs.declared.history.Verdict.{Verdict}
use Rattle.metric_words.specs.declared.limits.TheConstants.{MAX_UNITS}
use Rattle.metric_words.specs.declared.counter_view.CountStep.{CountStep}
use Rattle.metric_words.specs.declared.gauge_view.GaugeStep.{GaugeStep}
use Rattle.metric_words.specs.Counters.{firsts}
use Rattle.metric_words.specs.Known.{own_after}
use Rattle.metric_words.specs.CounterLedger.{CounterKnown, bank_id, worker_known, worker_part}
use Rattle.metric_words.specs.GaugeLedger.{GaugeKnown, gauges_id, gauge_known, gauge_part}
use Rattle.turn_cell.specs.declared.limits.TheConstants.{MAX_TURNED}
use Rattle.half_side.specs.Halves.{value_count}
use Rattle.run_ledger.specs.Grows.{Adds, Moves, Records}
use Rattle.store_parts.specs.declared.store.Store.{Store}
use Rattle.recorder.specs.declared.hand.Hand.{Hand}
use Rattle.recorder.specs.Acting.{active_after}

-- its seats are of the store's banks
pub record IsHandOf (store : Store) (hand : Hand) : Type 0 where
  pub counters : (worker_known hand.counts).bank ≡ bank_id store.counters
  pub gauges : (gauge_known hand.gauges).bank ≡ gauges_id store.gauges

-- it may make what one event more makes
pub record HasRoom (hand : Hand) : Type 0 where
  pub units : (id : ℕ) → firsts id (worker_part hand.counts).steps + 2 ^ 32 ≤ MAX_UNITS
  pub values : value_count hand.side < MAX_TURNED

-- the same with these steps
abbrev pub with_steps : List CountStep → CounterKnown → CounterKnown
with_steps steps k = own_after (λ p. record { role = p.role; seat = p.seat; workers = p.workers; steps = steps }) k

abbrev pub with_moves : List GaugeStep → GaugeKnown → GaugeKnown
with_moves steps k = own_after (λ p. record { seat = p.seat; workers = p.workers; steps = steps }) k

-- its one add, gauge step or recording was made, and nothing else
pub record Acts (told : Event × Verdict) (old new : Hand) : Type 0 where
  pub adds : Adds told (worker_part old.counts).steps (worker_part new.counts).steps
  pub moves : Moves told (gauge_part old.gauges).steps (gauge_part new.gauges).steps
  pub records : Records told old.side.active.values new.side.active.values
  pub counts : worker_known new.counts ≡ with_steps (worker_part new.counts).steps (worker_known old.counts)
  pub gauges : gauge_known new.gauges ≡ with_moves (gauge_part new.gauges).steps (gauge_known old.gauges)
  pub cell : new.side.cell ≡ old.side.cell
  pub active : new.side.active ≡ active_after told old.side.active

abbrev pub IsRecording : Event → Type 0
IsRecording (Rec label name v) = Unit {0}
IsRecording _ = ⊥
