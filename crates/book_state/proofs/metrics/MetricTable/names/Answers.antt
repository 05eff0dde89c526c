use Rattle.std.proofs.Common.{◌≡◌, List, map, IfOk, ap, ◌∙◌, subst}
use Rattle.stat_defs.specs.declared.ids.MetricId.{MetricId}
use Rattle.book_state.specs.declared.metrics.MetricRow.{MetricRow}
use Rattle.book_state.specs.State.{names_of}
use Rattle.book_state.specs.Metrics.{metric_of}
use Rattle.book_state.proofs.Listing.{as_id, ids_are}
use Rattle.book_state.proofs.metrics.MetricTable.names.Goals as goal

pub returns : goal.returns
returns c = subst (λ (ids : List MetricId). IfOk c.ids_in.result (λ all. all.items ≡ ids))
    (ap (map as_id) (c.as_slice.ensures ∙ c.values.ensures.rest)
    ∙ (ap (λ names. map as_id (map (λ name. name.1) names)) c.self.invariant.known_are
    ∙ (ids_are 0 (map metric_of c.self.inside.rows.items) ∙ ap (λ (rows : List MetricRow). names_of (map metric_of rows)) c.self.view_is)))
    c.ids_in.ensures
