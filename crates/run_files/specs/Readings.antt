-- The readings of a run (this project's own).
use Rattle.std.specs.Prelude.{◌≡◌, ℕ, List, length, map}
use Rattle.stat_defs.specs.declared.reports.ReadRecord.{ReadRecord}
use Rattle.store_parts.specs.declared.store.Store.{Store}
use Rattle.admin_side.specs.Reader.{ReaderKnown, IsReaderOf}
use Rattle.run_files.specs.declared.readings.Readings.{Readings}

-- these are all readings of the store's reader, in order
pub record HasRead (store : Store) (records : List ReadRecord) (k : ReaderKnown) : Type 0 where
  pub of : IsReaderOf store.book store.counters store.gauges k
  pub shown : records ≡ map (λ read. read.shown) k.reads

-- so many readings, which are all that the reader made
pub record AreReadings (store : Store) (count : ℕ) (readings : Readings) : Type 0 where
  pub read : HasRead store readings.records.items readings.admin
  pub number : length readings.records.items ≡ count
