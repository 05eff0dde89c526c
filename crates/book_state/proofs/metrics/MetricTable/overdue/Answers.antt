use Rattle.std.proofs.Common.{◌≡◌, ℕ, ◌<◌, ◌+◌, List, All, IfOk, map, length, slice_get, ap, sym, ◌∙◌, subst, arith}
use Rattle.std.proofs.lemmas.List.{length-map}
use Rattle.stat_defs.specs.declared.ids.MetricId.{MetricId}
use Rattle.book_state.specs.declared.metrics.MetricRow.{MetricRow}
use Rattle.book_state.specs.State.{ids_from}
use Rattle.book_state.specs.Metrics.{metric_of, is_overdue, overdue_among}
use Rattle.book_state.proofs.Changing.{names_within, overdue_are}
use Rattle.book_state.proofs.metrics.MetricTable.overdue.Goals as goal

pub overdue_in-requires : goal.overdue_in-requires
overdue_in-requires c =
    let rows = c.self.inside.rows.items in
    let few = length-map rows metric_of in
    subst (λ (ids : List ℕ). All (λ id. id < length c.deref.result.now) ids)
    (sym (c.as_slice.ensures ∙ (c.values.ensures.rest ∙ ap (map (λ name. name.1)) c.self.invariant.known_are)))
    (names_within (length c.deref.result.now) 0 (map metric_of rows) (omega (arith, few, ap length c.deref.ensures.value)))

pub returns : goal.returns
returns c =
    let rows = c.self.inside.rows.items in
    subst (λ (ids : List MetricId). IfOk c.overdue_in.result (λ all. all.items ≡ ids))
    (ap (λ (all : List MetricRow). overdue_among c.args.least all c.as_slice.result.now) c.deref.ensures.value
    ∙ (ap (λ (ids : List ℕ). overdue_among c.args.least rows ids) (c.as_slice.ensures ∙ (c.values.ensures.rest ∙ ap (map (λ name. name.1)) c.self.invariant.known_are))
    ∙ (overdue_are c.args.least rows 0 rows (λ k. let e : 0 + k ≡ k = omega arith in ap (λ (i : ℕ). slice_get rows i) e)
    ∙ ap (λ (all : List MetricRow). ids_from (λ m. is_overdue c.args.least m.life) 0 (map metric_of all)) c.self.view_is)))
    c.overdue_in.ensures
