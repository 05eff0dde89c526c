use Rattle.std.proofs.Common.{◌≡◌, List, IfOk, ap, ◌∙◌, subst}
use Rattle.stat_defs.specs.declared.ids.MetricId.{MetricId}
use Rattle.book_state.specs.State.{names_of, names_in}
use Rattle.book_state.specs.Stored.{StateView}
use Rattle.book_state.specs.StateKept.{shown, stored_in}
use Rattle.book_state.proofs.Storing.{metrics_are}
use Rattle.book_state.proofs.state.BookState.names.Goals as goal

pub returns : goal.returns
returns c = subst (λ (ids : List MetricId). IfOk c.names.result (λ all. all.items ≡ ids))
    (ap names_of (metrics_are (stored_in c.self.inside) (shown c.self.inside).state c.self.invariant) ∙ ap (λ (v : StateView). names_in v.state) c.self.view_is) c.names.ensures
