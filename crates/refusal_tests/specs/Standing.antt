-- A store between two calls (this project's own).
use Rattle.std.specs.Prelude.{◌≡◌, ◌+◌, ◌≤◌, ℕ, None}
use Rattle.store_parts.specs.declared.store.Store.{Store}
use Rattle.recorder.specs.declared.limits.TheConstants.{MAX_GIVEN}
use Rattle.recorder.specs.Knowing.{RecorderKnown}
use Rattle.recorder.specs.Tied.{IsWorkerOf}
use Rattle.admin_side.specs.Reader.{IsReaderOf}
use Rattle.flusher.specs.Flusher.{FlusherKnown, IsFlusherOf}
use Rattle.refusal_tests.specs.declared.parties.Parties.{Parties}

-- it is the store's worker, and may be given this number of events more
pub record MayBeGiven (store : Store) (more : ℕ) (r : RecorderKnown) : Type 0 where
  pub worker : IsWorkerOf store 1 r
  pub few : r.given + more ≤ MAX_GIVEN

-- the flusher of the store, between two rounds
abbrev pub IsIdle : Store → FlusherKnown → Type 0
IsIdle store flusher = IsFlusherOf store flusher × (flusher.round ≡ None)

pub record AreParties (p : Parties) : Type 0 where
  pub worker : IsWorkerOf p.store 1 p.recorder
  pub flusher : IsIdle p.store p.flusher
  pub reader : IsReaderOf p.store.book p.store.counters p.store.gauges p.admin
