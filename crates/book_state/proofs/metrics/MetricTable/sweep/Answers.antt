use Rattle.std.proofs.Common.{◌≡◌, ℕ, ◌<◌, not, filter, List, All, map, length, ap, sym, ◌∙◌, subst, arith}
use Rattle.std.proofs.lemmas.List.{length-map}
use Rattle.book_state.specs.declared.metrics.MetricRow.{MetricRow}
use Rattle.book_state.specs.declared.tables.NameKey.{NameKey}
use Rattle.book_state.specs.Metrics.{metric_of, change_all, swept_row, gone_at}
use Rattle.book_state.specs.MetricsKept.{IsIndexed}
use Rattle.book_state.proofs.Changing.{names_within, swept_all, swept_indexed}
use Rattle.book_state.proofs.metrics.MetricTable.sweep.Goals as goal
use Rattle.book_state.proofs.metrics.MetricTable.sweep.Goals.{After-sweep_each}

pub sweep_each-requires : goal.sweep_each-requires
sweep_each-requires c =
    let rows = c.self.inside.rows.items in
    let few = length-map rows metric_of in
    subst (λ (ids : List ℕ). All (λ id. id < length rows) ids)
    (sym (c.as_slice.ensures ∙ (c.values.ensures.rest ∙ ap (map (λ name. name.1)) c.self.invariant.known_are)))
    (names_within (length rows) 0 (map metric_of rows) (omega (arith, few)))

swept : (c : After-sweep_each) → c.sweep_each.new.rows.items ≡ map (swept_row c.args.least) c.self.inside.rows.items
swept c = c.sweep_each.ensures
    ∙ (ap (λ (ids : List ℕ). change_all (swept_row c.args.least) ids c.self.inside.rows.items) (c.as_slice.ensures ∙ (c.values.ensures.rest ∙ ap (map (λ name. name.1)) c.self.invariant.known_are))
    ∙ swept_all c.args.least c.self.inside.rows.items)

pub invariant_of-self : goal.invariant_of-self
invariant_of-self c = let d = (goal.at.invariant_of-self c).After-sweep_each in
    subst (λ (rows : List MetricRow). IsIndexed (map metric_of rows) c.forget_gone.new.known.entries c.self.inside.histograms) (sym (swept d))
    (swept_indexed c.args.least c.self.inside.rows.items c.self.inside.known.entries c.forget_gone.new.known.entries c.self.inside.histograms
    (c.forget_gone.ensures ∙ ap (λ (rows : List MetricRow). filter (λ (name : NameKey × ℕ). not (gone_at rows name.1)) c.self.inside.known.entries) (c.deref.ensures.value ∙ swept d)) c.self.invariant)

pub returns : goal.returns
returns c = let d = (goal.at.returns c).After-sweep_each in swept d ∙ ap (map (swept_row c.args.least)) c.self.view_is
