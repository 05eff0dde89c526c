use Rattle.std.proofs.Common.{ap, length, refl, subst, List}
use Rattle.stat_defs.specs.declared.reports.FlushRecord.{FlushRecord}
use Rattle.plain_store.specs.Store.{StoreHistory}
use Rattle.library_examples.specs.Counting.{AreFlushedInTurn}
use Rattle.library_examples.proofs.Counted.{room_for_all, no_records, showable_after, records_and_last}
use Rattle.library_examples.proofs.counting.count_in_turn.Goals as goal

pub flush_in_turn-requires-clause-room : goal.flush_in_turn-requires-clause-room
flush_in_turn-requires-clause-room g c =
    room_for_all c.args.config.now c.in_ok-store.store c.in_ok-store.ensures.made _ c.requires.few

pub flush_in_turn-requires-clause-flushes : goal.flush_in_turn-requires-clause-flushes
flush_in_turn-requires-clause-flushes g c =
    no_records c.args.config.now c.in_ok-store.store c.in_ok-store.ensures.made _ c.in_ok-store.store
    c.new-flushes.ensures.items refl

pub returns-in_ok-finish_report-in-Ok : goal.returns-in_ok-finish_report-in-Ok
returns-in_ok-finish_report-in-Ok g c =
    let turns = c.in-Ok.ensures in
    let reported = c.in_ok-finish_report-in-Ok.ensures in
    record {
      counted = record {
        store = c.flush_in_turn.new.store;
        in_turn = subst (λ (s : StoreHistory). AreFlushedInTurn g.S.Source.state c.args.sources.items s
            c.flush_in_turn.new.store) c.in_ok-store.ensures.made turns.counted;
        reported = reported;
      };
      refused = tt;
      showable = showable_after c.args.config.now c.in_ok-store.store c.in_ok-store.ensures.made c.flush_in_turn.new.store
          c.in_ok-finish_report-in-Ok.field-0 reported c.requires.config turns.kept;
      flushes = records_and_last c.args.config.now c.in_ok-store.store c.in_ok-store.ensures.made
          c.flush_in_turn.new.store c.in_ok-finish_report-in-Ok.field-0 reported c.flush_in_turn.new.flushes.items _ _
          turns.flushes turns.more (ap (λ (fs : List FlushRecord). length fs) c.new-flushes.ensures.items);
    }
