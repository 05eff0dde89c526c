use Rattle.std.proofs.Common.{ap, length, refl, subst, List}
use Rattle.stat_defs.specs.declared.reports.FlushRecord.{FlushRecord}
use Rattle.plain_store.specs.Store.{StoreHistory}
use Rattle.library_examples.specs.Counting.{AreFlushedOften}
use Rattle.library_examples.proofs.Counted.{room_for_lines, no_records, showable_after, records_and_last}
use Rattle.library_examples.proofs.counting.count_often.Goals as goal

pub flush_after_lines-requires-clause-room : goal.flush_after_lines-requires-clause-room
flush_after_lines-requires-clause-room g c = room_for_lines c.args.config.now c.in_ok-store.store c.in_ok-store.ensures.made

pub flush_after_lines-requires-clause-flushes : goal.flush_after_lines-requires-clause-flushes
flush_after_lines-requires-clause-flushes g c =
    no_records c.args.config.now c.in_ok-store.store c.in_ok-store.ensures.made _ c.in_ok-store.store
    c.new-records.ensures.items refl

pub returns-in_ok-finish_report-in-Ok : goal.returns-in_ok-finish_report-in-Ok
returns-in_ok-finish_report-in-Ok g c =
    let often = c.in-Ok.ensures in
    let reported = c.in_ok-finish_report-in-Ok.ensures in
    record {
      counted = record {
        store = c.flush_after_lines.new.store;
        often = subst (λ (s : StoreHistory). AreFlushedOften g.S.Source.state c.args.source c.args.flushes s
            c.flush_after_lines.new.store) c.in_ok-store.ensures.made often.counted;
        reported = reported;
      };
      refused = tt;
      showable = showable_after c.args.config.now c.in_ok-store.store c.in_ok-store.ensures.made
          c.flush_after_lines.new.store c.in_ok-finish_report-in-Ok.field-0 reported c.requires often.kept;
      flushes = records_and_last c.args.config.now c.in_ok-store.store c.in_ok-store.ensures.made
          c.flush_after_lines.new.store c.in_ok-finish_report-in-Ok.field-0 reported
          c.flush_after_lines.new.records.items _ _ often.flushes often.more
          (ap (λ (fs : List FlushRecord). length fs) c.new-records.ensures.items);
    }
