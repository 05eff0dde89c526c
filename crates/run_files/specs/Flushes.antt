-- The flushes of a run (this project's own).
use Rattle.std.specs.Prelude.{◌≡◌, ℕ, None, List, length, map}
use Rattle.stat_defs.specs.declared.reports.FlushRecord.{FlushRecord}
use Rattle.store_parts.specs.declared.store.Store.{Store}
use Rattle.flusher.specs.Flusher.{FlusherKnown, IsFlusherOf}
use Rattle.run_files.specs.declared.flushes.Flushings.{Flushings}

-- these are all flushes of the store's flusher, in order, and it is between two rounds
pub record HasFlushed (store : Store) (records : List FlushRecord) (k : FlusherKnown) : Type 0 where
  pub of : IsFlusherOf store k
  pub shown : records ≡ map (λ flush. flush.shown) k.flushes
  pub between : k.round ≡ None

-- it looked at its cells, any number of times
pub record HasLooked (store : Store) (old new : FlusherKnown) : Type 0 where
  pub of : IsFlusherOf store new
  pub flushes : new.flushes ≡ old.flushes
  pub round : new.round ≡ old.round

-- so many flushes, which are all that the flusher made
pub record AreFlushings (store : Store) (count : ℕ) (flushings : Flushings) : Type 0 where
  pub flushed : HasFlushed store flushings.records.items flushings.flusher
  pub number : length flushings.records.items ≡ count
