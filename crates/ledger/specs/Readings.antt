-- What one reading of a report shows. This project's own.
use Rattle.std.specs.Prelude.{◌≡◌, ◌≤◌, ℕ, ◌==◌, if◌then◌else◌, List, length, map, take}
use Rattle.std.specs.List.{AllByRecursion}
use Rattle.stat_defs.specs.declared.ids.Kind.TheVariants.{Counter, Gauge}
use Rattle.stat_defs.specs.declared.history.Entry.{Entry}
use Rattle.stat_defs.specs.declared.reports.Reading.{Reading}
use Rattle.stat_defs.specs.declared.reports.ReadRecord.{ReadRecord}
use Rattle.book_state.specs.State.{NameRules}
use Rattle.book_state.specs.Log.{replay}
use Rattle.ledger.specs.Work.{Work, units_of}
use Rattle.ledger.specs.Flushes.{ids_not_gone, id_of_reading}

-- the word of a reading, where it is of this number
abbrev pub word_on : ℕ → Reading → ℕ
word_on id reading = if reading.id.0 == id then reading.word else 0

-- a reading whose names are those of the first entries of this log
pub record ReadingFits (rules : NameRules) (log : List Entry) (workers : List Work) (read : ReadRecord) : Type 0 where
  pub within : read.at ≤ length log
  -- a value for each counter that was not gone, and a word for each gauge
  pub counters : map id_of_reading read.counters
      ≡ ids_not_gone Counter (replay rules (length workers) (take read.at log))
  pub gauges : map id_of_reading read.gauges
      ≡ ids_not_gone Gauge (replay rules (length workers) (take read.at log))
  -- no counter is above its units
  pub at_most : AllByRecursion (λ reading. reading.word ≤ units_of reading.id.0 workers) read.counters

-- no counter has less than an earlier reading has of it
abbrev pub NoneFalls : ReadRecord → ReadRecord → Type 0
NoneFalls earlier later = AllByRecursion (λ now.
    AllByRecursion (λ before. before.id.0 ≡ now.id.0 → before.word ≤ now.word) earlier.counters) later.counters
