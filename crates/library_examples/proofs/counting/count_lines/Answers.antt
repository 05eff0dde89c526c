use Rattle.std.proofs.Common.{subst}
use Rattle.plain_store.specs.Store.{StoreHistory}
use Rattle.library_examples.specs.Counting.{AreLinesApplied}
use Rattle.library_examples.proofs.Counted.{room_for_lines, no_records, showable_after}
use Rattle.library_examples.proofs.counting.count_lines.Goals as goal

pub apply_lines-requires : goal.apply_lines-requires
apply_lines-requires g c = room_for_lines c.args.config.now c.in_ok-store.store c.in_ok-store.ensures.made

pub finish_report-requires : goal.finish_report-requires
finish_report-requires g c =
    no_records c.args.config.now c.in_ok-store.store c.in_ok-store.ensures.made _ c.apply_lines.new.store c.new.ensures.items
    c.in-Ok.ensures.flushes

pub returns-in_ok-finish_report-in-Ok-clause-showable : goal.returns-in_ok-finish_report-in-Ok-clause-showable
returns-in_ok-finish_report-in-Ok-clause-showable g c =
    showable_after c.args.config.now c.in_ok-store.store c.in_ok-store.ensures.made c.apply_lines.new.store
    c.in_ok-finish_report-in-Ok.field-0 c.in_ok-finish_report-in-Ok.ensures c.requires c.in-Ok.ensures.kept

pub returns-in_ok-finish_report-in-Ok-clause-counted : goal.returns-in_ok-finish_report-in-Ok-clause-counted
returns-in_ok-finish_report-in-Ok-clause-counted g c =
    let lines = c.in-Ok.ensures in
    record {
      store = c.apply_lines.new.store;
      verdicts = c.in-Ok._lines.verdicts.items;
      end = c.in-Ok._lines.end;
      read = subst (λ (s : StoreHistory). AreLinesApplied g.S.Source.state c.args.source s c.apply_lines.new.store
          c.in-Ok._lines.verdicts.items c.in-Ok._lines.end) c.in_ok-store.ensures.made lines.applied;
      reported = c.in_ok-finish_report-in-Ok.ensures;
    }
