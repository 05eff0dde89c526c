use Rattle.std.proofs.Common.{List, ap, ◌∙◌}
use Rattle.stat_defs.specs.declared.metrics.Metric.{Metric}
use Rattle.book_state.specs.State.{known_in, known}
use Rattle.book_state.specs.Stored.{StateView}
use Rattle.book_state.specs.StateKept.{shown, stored_in}
use Rattle.book_state.proofs.Storing.{metrics_are}
use Rattle.book_state.proofs.state.BookState.known.Goals as goal

pub returns : goal.returns
returns c = c.known.ensures ∙ (ap (λ (ms : List Metric). known_in ms c.args.name.now.kind c.args.name.now.name) (metrics_are (stored_in c.self.inside) (shown c.self.inside).state c.self.invariant)
    ∙ ap (λ (v : StateView). known v.state c.args.name.now.kind c.args.name.now.name) c.self.view_is)
