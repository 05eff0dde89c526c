use Rattle.flush_view.proofs.Befores.{one_left}
use Rattle.flush_view.proofs.before.before_of.Goals as goal

pub loop-id-preserved : goal.loop-id-preserved
loop-id-preserved c =
    one_left c.args.book.now.state.metrics c.loop-id.id c.metric.result.now c.loop-id.lefts.items c.push.new.self.items
    c.in_ok-left_of.field-0 c.in_ok-push.ensures.items c.loop-id.invariant c.in_ok-left_of.ensures c.metric.ensures
