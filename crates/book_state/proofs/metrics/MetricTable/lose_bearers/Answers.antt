use Rattle.std.proofs.Common.{List, All, map, sym, subst}
use Rattle.book_state.specs.declared.metrics.MetricRow.{MetricRow}
use Rattle.book_state.specs.Metrics.{metric_of}
use Rattle.book_state.specs.MetricsKept.{IsIndexed}
use Rattle.book_state.proofs.Changing.{There, all_within, lost_indexed}
use Rattle.book_state.proofs.metrics.MetricTable.lose_bearers.Goals as goal

pub lose_each-requires : goal.lose_each-requires
lose_each-requires c =
    all_within c.self.inside.rows.items c.args.ids.now (subst (λ (rows : List MetricRow). All (There rows) c.args.ids.now) (sym c.self.view_is) c.requires)

pub invariant_of-self : goal.invariant_of-self
invariant_of-self c =
    let there = subst (λ (rows : List MetricRow). All (There rows) c.args.ids.now) (sym c.self.view_is) c.requires in
    subst (λ (rows : List MetricRow). IsIndexed (map metric_of rows) c.self.inside.known.entries c.self.inside.histograms) (sym c.lose_each.ensures)
    (lost_indexed c.args.tag c.args.ids.now c.self.inside.rows.items c.self.inside.known.entries c.self.inside.histograms there c.self.invariant)
