-- What a flush shows of a listing (this project's own).
use Rattle.std.specs.Prelude.{◌≡◌, map}
use Rattle.stat_defs.specs.declared.reports.FlushRecord.{FlushRecord}
use Rattle.locked_book.specs.declared.listing.Listing.{Listing}
use Rattle.ledger.specs.Flushes.{id_of_delta, id_of_reading}
use Rattle.metric_words.specs.CounterLedger.{flush_known}
use Rattle.metric_words.specs.GaugeLedger.{gauge_known}
use Rattle.flush_words.specs.Words.{after_latches, after_gauge_loads}
use Rattle.flusher.specs.declared.parts.FlusherParts.{FlusherParts}

-- its place, a delta for each of its counters, and a word for each of its gauges, in order
pub record Flushed (listing : Listing) (shown : FlushRecord) : Type 0 where
  pub at : shown.at ≡ listing.at
  pub counters : map id_of_delta shown.deltas ≡ listing.counters
  pub gauges : map id_of_reading shown.gauges ≡ listing.gauges

-- one latch of each of its counters and one load of each of its gauges, in order
pub record ReadsWords (shown : FlushRecord) (old new : FlusherParts) : Type 0 where
  pub counters : flush_known new.counters ≡ after_latches shown.deltas (flush_known old.counters)
  pub gauges : gauge_known new.gauges ≡ after_gauge_loads shown.gauges (gauge_known old.gauges)
