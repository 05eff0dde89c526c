-- What a reading shows of the names that it knew (this project's own).
use Rattle.std.specs.Prelude.{◌≡◌, List, map}
use Rattle.stat_defs.specs.declared.ids.Kind.TheVariants.{Counter, Gauge}
use Rattle.stat_defs.specs.declared.history.NameOp.{NameOp}
use Rattle.stat_defs.specs.declared.reports.ReadRecord.{ReadRecord}
use Rattle.stat_defs.specs.Changes.{names_after}
use Rattle.name_changes.specs.Changes.{newest}
use Rattle.name_list.specs.Ids.{ids_of}
use Rattle.ledger.specs.Flushes.{id_of_reading}

-- the `at` of the last of these changes, and a word for each counter and gauge that they give, in order
pub record Shows (changes : List NameOp) (shown : ReadRecord) : Type 0 where
  pub at : shown.at ≡ newest changes
  pub counters : map id_of_reading shown.counters ≡ ids_of Counter (names_after changes)
  pub gauges : map id_of_reading shown.gauges ≡ ids_of Gauge (names_after changes)
