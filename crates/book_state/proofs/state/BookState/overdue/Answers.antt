use Rattle.std.proofs.Common.{◌≡◌, List, IfOk, map, ap, ◌∙◌, subst}
use Rattle.std.specs.List.{list_all}
use Rattle.stat_defs.specs.declared.metrics.Metric.{Metric}
use Rattle.stat_defs.specs.declared.ids.MetricId.{MetricId}
use Rattle.book_state.specs.declared.seats.SeatRow.{SeatRow}
use Rattle.book_state.specs.State.{ids_from, metrics_of}
use Rattle.book_state.specs.Step.{overdue, overdue_in}
use Rattle.book_state.specs.Metrics.{is_overdue}
use Rattle.book_state.specs.Stored.{StateView, seat_row, has_passed}
use Rattle.book_state.specs.StateKept.{shown, stored_in}
use Rattle.book_state.proofs.Storing.{metrics_are, all_stored, overdue_is}
use Rattle.book_state.proofs.Naming.{ids_same}
use Rattle.book_state.proofs.state.BookState.overdue.Goals as goal

pub returns : goal.returns
returns c =
    let b = c.self.inside in let s = (shown b).state in
    subst (λ (ids : List MetricId). IfOk c.overdue.result (λ all. all.items ≡ ids))
    (ap (ids_from (λ (m : Metric). is_overdue c.least_tag.result m.life) 0) (metrics_are (stored_in b) s c.self.invariant)
    ∙ (ids_same (λ (m : Metric). is_overdue c.least_tag.result m.life) (λ (m : Metric). overdue s.seats m.life)
    (λ m. overdue_is c.least_tag.result s.seats (λ r. c.least_tag.ensures r
    ∙ (ap (λ (seats : List SeatRow). list_all (has_passed r) (map seat_row seats)) c.deref.ensures.value ∙ (ap (list_all (has_passed r)) c.self.invariant.seats ∙ all_stored r s.seats))) m.life) 0 (metrics_of s)
    ∙ ap (λ (v : StateView). overdue_in v.state) c.self.view_is))
    c.overdue.ensures
