use Rattle.std.proofs.Common.{◌∙◌, List, [], length, get_or, ap, sym, subst}
use Rattle.stat_defs.specs.declared.history.Entry.{Entry}
use Rattle.stat_defs.specs.declared.reports.FlushRecord.{FlushRecord}
use Rattle.book_state.specs.declared.limits.TheConstants.{MAX_METRICS}
use Rattle.book_state.specs.Log.{empty}
use Rattle.flush_view.specs.Kept.{HasSums}
use Rattle.flush_view.specs.Replaying.{state_after}
use Rattle.live_view.proofs.Shown.{started}
use Rattle.live_view.proofs.live_views.LiveViews.new.Goals as goal

pub invariant_of-result : goal.invariant_of-result
invariant_of-result c = record {
  buckets = c.requires.buckets;
  ready = λ whole. record {
    book = c.in_ok-new.ensures
        ∙ (λ i. record { tags = c.requires.rules i; state = empty c.args.workers; released = [] })
        ∙ ap (λ (logs : List (List Entry)). state_after c.args.config.now.tags c.args.workers (get_or logs 0 []))
        (sym c.new-3.ensures);
    followed = ap (λ (logs : List (List Entry)). length (get_or logs 0 [])) (sym c.new-3.ensures);
    sums = subst (λ (flushes : List FlushRecord). HasSums MAX_METRICS flushes c.in_ok-new-2.field-0)
        (sym c.new-4.ensures) (started c.in_ok-new-2.field-0 c.in_ok-new-2.ensures);
  };
}
