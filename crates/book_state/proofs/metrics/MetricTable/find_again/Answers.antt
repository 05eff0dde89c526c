use Rattle.std.proofs.Common.{◌≡◌, ◌+◌, ◌<◌, ◌^◌, false, refl, ap, sym, ◌∙◌, subst, List, map, slice_get}
use Rattle.std.specs.Option.{IsSomeAnd}
use Rattle.book_state.specs.declared.metrics.MetricRow.{MetricRow}
use Rattle.book_state.specs.State.{is_gone}
use Rattle.book_state.specs.Step.{change_at}
use Rattle.book_state.specs.Metrics.{metric_of, found_again}
use Rattle.book_state.specs.MetricsKept.{IsIndexed}
use Rattle.book_state.proofs.Lists.{set_read, some_at, within_some}
use Rattle.book_state.proofs.Changing.{changed_indexed}
use Rattle.book_state.proofs.metrics.MetricTable.find_again.Goals as goal

pub invariant_of-self : goal.invariant_of-self
invariant_of-self c =
    let rows = c.self.inside.rows.items in
    let there = subst (λ (rows : List MetricRow). IsSomeAnd (slice_get rows c.args.id) (λ row. (is_gone row.metric.life ≡ false) × (row.bearers + 1 < 2 ^ 64))) (sym c.self.view_is) c.requires in
    subst (λ (rows : List MetricRow). IsIndexed (map metric_of rows) c.self.inside.known.entries c.self.inside.histograms)
    (sym (set_read (found_again c.args.mode c.args.new) rows c.args.id c.index_mut.result.now _ (within_some rows c.args.id _ there) c.index_mut.ensures.value c.find_row.ensures))
    (changed_indexed c.self.inside.known.entries c.self.inside.histograms (found_again c.args.mode c.args.new) c.args.id rows
    (λ row at. record { gone = sym (some_at (λ (row : MetricRow). (is_gone row.metric.life ≡ false) × (row.bearers + 1 < 2 ^ 64)) (slice_get rows c.args.id) row at there).0; kind = refl; name = refl }) c.self.invariant)

pub returns : goal.returns
returns c =
    let rows = c.self.inside.rows.items in
    let there = subst (λ (rows : List MetricRow). IsSomeAnd (slice_get rows c.args.id) (λ row. (is_gone row.metric.life ≡ false) × (row.bearers + 1 < 2 ^ 64))) (sym c.self.view_is) c.requires in
    set_read (found_again c.args.mode c.args.new) rows c.args.id c.index_mut.result.now _ (within_some rows c.args.id _ there) c.index_mut.ensures.value c.find_row.ensures
    ∙ ap (λ (rows : List MetricRow). change_at (found_again c.args.mode c.args.new) c.args.id rows) c.self.view_is
