-- What callers may conclude from a seat's list of steps, and from what a counter bank gives at its end (this
-- project's own).
use Rattle.std.specs.Prelude.{◌≡◌, ℕ, ◌+◌, ◌<◌, ◌≤◌, Bool, ◌==◌, cond, List, [], ◌∷◌, ◌++◌, map, All, slice_index}
use Rattle.seat_parts.specs.Parts.{total}
use Rattle.metric_words.specs.declared.counter_view.CountKind.{CountKind}
use Rattle.metric_words.specs.declared.counter_view.CountKind.TheVariants.{First, Second, Latch, Load}
use Rattle.metric_words.specs.declared.counter_view.CountStep.{CountStep}
use Rattle.metric_words.specs.declared.counter_view.CountPart.{CountPart}
use Rattle.metric_words.specs.declared.counter_seats.WordSeats.{WordSeats}
use Rattle.metric_words.specs.Counters.{when, step_of, firsts, seconds, latches, Rises}
use Rattle.metric_words.specs.CounterLedger.{worker_part, flush_known, flush_steps, read_steps, IsLedger}

-- the word found, before those found earlier, where the step is a load of the counter
abbrev pub as_loaded : CountKind → Bool → ℕ → List ℕ → List ℕ
as_loaded First here found earlier = earlier
as_loaded Second here found earlier = earlier
as_loaded Latch here found earlier = earlier
as_loaded Load here found earlier = cond here (found ∷ earlier) earlier

-- the words that the loads of this counter found, the newest first
abbrev pub loads_of : ℕ → List CountStep → List ℕ
loads_of id [] = []
loads_of id (s ∷ ss) = as_loaded s.kind (s.id == id) s.found (loads_of id ss)

-- of a list whose loads never fall and stay at most `top`, the newest load of a counter is the greatest
pub record NewestIsGreatest : Type 0 where
  pub below : (id top : ℕ) (steps : List CountStep) → Rises id steps top
      → All (λ found. found ≤ top) (loads_of id steps)
  pub newest : (id top found : ℕ) (steps : List CountStep) (earlier : List ℕ) → Rises id steps top
      → loads_of id steps ≡ found ∷ earlier → All (λ e. e ≤ found) earlier

-- what each call of a counter bank adds to the sums over a list, for the counter `k` and for every other
pub record SumsGrow : Type 0 where
  pub add_firsts : (k id n x y : ℕ) (steps : List CountStep)
      → firsts k (step_of Second id n y ∷ step_of First id n x ∷ steps) ≡ firsts k steps + when (id == k) n
  pub add_seconds : (k id n x y : ℕ) (steps : List CountStep)
      → seconds k (step_of Second id n y ∷ step_of First id n x ∷ steps) ≡ seconds k steps + when (id == k) n
  pub add_latches : (k id n x y : ℕ) (steps : List CountStep)
      → latches k (step_of Second id n y ∷ step_of First id n x ∷ steps) ≡ latches k steps
  pub latch : (k id r : ℕ) (steps : List CountStep)
      → latches k (step_of Latch id 0 r ∷ steps) ≡ latches k steps + when (id == k) r
  pub load : (k id r : ℕ) (steps : List CountStep)
      → loads_of k (step_of Load id 0 r ∷ steps) ≡ cond (id == k) (r ∷ loads_of k steps) (loads_of k steps)
  pub load_latches : (k id r : ℕ) (steps : List CountStep)
      → latches k (step_of Load id 0 r ∷ steps) ≡ latches k steps

-- the workers' seats, behind them those that the flusher's seat took in
abbrev pub worker_parts : WordSeats → List CountPart
worker_parts s = map worker_part s.workers.items ++ (flush_known s.flusher).taken

-- One counter at the end, by the lists of the workers, of the flusher and of the reader: its value is the sum of
-- the adds, of which each made both steps; it is what was latched and what is pending; and no load found more.
pub record IsCounterEnd (id : ℕ) (workers : List CountPart) (flusher reader : List CountStep)
    (value pending : ℕ) : Type 0 where
  pub firsts : value ≡ total (λ p. firsts id p.steps) workers
  pub seconds : value ≡ total (λ p. seconds id p.steps) workers
  pub latched : latches id flusher + pending ≡ value
  pub loads : All (λ found. found ≤ value) (loads_of id reader)

-- what the ledger says of one counter
pub record EndOfOne : Type 0 where
  pub each : (size workers id : ℕ) (s : WordSeats) (values pending : List ℕ)
      → IsLedger size workers s values pending → id < size
      → IsCounterEnd id (worker_parts s) (flush_steps s) (read_steps s)
      (slice_index values id) (slice_index pending id)
