use Rattle.live_view.proofs.Copied.{one_copy}
use Rattle.live_view.proofs.copies.copy_of_metrics.Goals as goal

pub loop-id-preserved : goal.loop-id-preserved
loop-id-preserved c =
    one_copy c.args.book.now.state.metrics c.loop-id.id c.metric.result.now c.in_ok-copy_of_metric.field-0
    c.loop-id.metrics.items c.push.new.self.items
    c.in_ok-push.ensures.items c.loop-id.invariant c.in_ok-copy_of_metric.ensures c.metric.ensures
