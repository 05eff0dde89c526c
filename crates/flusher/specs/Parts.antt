-- What a flusher's seats are tied to (this project's own).
use Rattle.metric_words.specs.CounterLedger.{flush_known}
use Rattle.metric_words.specs.GaugeLedger.{gauge_known}
use Rattle.store_parts.specs.Ids.{StoreIds, lock_of}
use Rattle.flusher.specs.declared.parts.FlusherParts.{FlusherParts}

abbrev pub ids_by : FlusherParts → StoreIds
ids_by parts = record {
  lock = lock_of parts.seat;
  counters = (flush_known parts.counters).bank;
  gauges = (gauge_known parts.gauges).bank;
}
