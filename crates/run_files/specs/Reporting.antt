-- The report of a run (this project's own).
use Rattle.std.specs.Prelude.{◌≡◌, [], ◌∷◌, ◌++◌}
use Rattle.stat_defs.specs.declared.reports.LastFlush.{LastFlush}
use Rattle.stat_defs.specs.declared.reports.Reported.{Reported}
use Rattle.store_parts.specs.declared.store.Store.{Store}
use Rattle.store_closing.specs.Closes.{Closes}
use Rattle.run_files.specs.declared.returning.Returned.{Returned}

-- The store came to its end, and the report is what the parties did, with the last flush behind the others and the
-- store's log. It comes with the names in that log.
pub record Reports (store : Store) (done : Returned) (made : Reported) : Type 0 where
  pub last : LastFlush
  pub closes : Closes store done.gathered.ended.items done.flushings.flusher done.readings.admin last
  pub is : made ≡ record {
    report = record {
      verdicts = done.gathered.verdicts.items;
      flushes = done.flushings.records.items ++ last.last ∷ [];
      log = last.log;
      reads = done.readings.records.items;
      ends = done.gathered.ends.items;
    };
    names = last.names;
  }
