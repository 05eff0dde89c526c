use Rattle.std.proofs.Common.{ap, ◌∙◌}
use Rattle.book_state.specs.State.{metrics_of}
use Rattle.book_state.specs.Stored.{StateView}
use Rattle.book_state.specs.StateKept.{shown, stored_in}
use Rattle.book_state.proofs.Storing.{metrics_are}
use Rattle.book_state.proofs.state.BookState.into_parts.Goals as goal

pub returns-clause-metrics : goal.returns-clause-metrics
returns-clause-metrics c =
    c.in_ok-into_metrics.ensures
    ∙ metrics_are (stored_in c.self.inside) (shown c.self.inside).state c.self.invariant
    ∙ ap (λ (v : StateView). metrics_of v.state) c.self.view_is
