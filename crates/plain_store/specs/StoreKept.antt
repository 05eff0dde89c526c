-- What a store on one thread keeps.
use Rattle.std.specs.Prelude.{◌≡◌, ◌≤◌, ◌+◌, ◌*◌, ◌^◌, ◌&&◌, ℕ, Bool, true, false, not, [], ◌∷◌, length, slice_get}
use Rattle.std.specs.Option.{option_map_or}
use Rattle.stat_defs.specs.Keys.{same_kind}
use Rattle.stat_defs.specs.declared.ids.Kind.TheVariants.{Counter}
use Rattle.book_state.specs.State.{State, is_gone}
use Rattle.stat_book.specs.Calls.{rules_of, state_of}
use Rattle.plain_store.specs.declared.worker.TheConstants.{MAX_EVENTS}
use Rattle.ledger.specs.Work.{units_of}
use Rattle.ledger.specs.Gauges.{gauge_word}
use Rattle.ledger.specs.Segments.{left_over, TakesLess}
use Rattle.ledger.specs.Flushes.{FitSoFar, flushed}
use Rattle.plain_store.specs.declared.sums.Sums.{Sums}
use Rattle.plain_store.specs.declared.store.PlainStore.TheInside.{Inside}
use Rattle.plain_store.specs.Sums.{delta_in, word_in, value_count}
use Rattle.plain_store.specs.Store.{StoreHistory}

abbrev pub shown : Inside → StoreHistory
shown p = record { worker = p.worker; counted = p.counted.items; flushes = p.flushes.items; whole = p.whole }

-- the metric of this number is a counter that is not gone
abbrev pub is_counter_there : State → ℕ → Bool
is_counter_there s id = option_map_or (λ row. same_kind row.metric.kind Counter && not (is_gone row.metric.life))
    (slice_get s.metrics id) false

-- no sum passes its bound
pub record AreSmall (events : ℕ) (sums : Sums) : Type 0 where
  pub deltas : (id : ℕ) → delta_in sums id ≤ 2 ^ 32 * events
  pub values : value_count sums ≤ events

-- the sums are those of the events that were counted
pub record AreOfWork (store : StoreHistory) (sums : Sums) : Type 0 where
  -- each unit is in one flush or in the deltas
  pub units : (id : ℕ) → units_of id (store.counted ∷ []) ≡ flushed id store.flushes + delta_in sums id
  -- units wait for a flush only where it will show them
  pub none_elsewhere : (id : ℕ) → is_counter_there (state_of store.worker.book) id ≡ false → delta_in sums id ≡ 0
  pub words : (id : ℕ) → word_in sums id ≡ gauge_word id store.counted
  -- each value is in one flush or in the half
  pub left : sums.half.values ≡ left_over 1 store.counted store.flushes
  pub none_merged : sums.parents.round ≡ []
  pub takes_less : TakesLess 1 store.counted store.flushes
  pub fit : FitSoFar (rules_of store.worker.book) store.worker.book.log (store.counted ∷ []) store.flushes

pub record IsKept (p : Inside) : Type 0 where
  pub works : p.worker.ended ≡ false
  pub decided : p.decided ≡ length p.worker.events
  pub few_events : length p.worker.events ≤ MAX_EVENTS
  pub small : AreSmall (length p.worker.events) p.sums
  -- said of a store none of whose flushes was cut short
  pub exact : p.whole ≡ true → AreOfWork (shown p) p.sums
