use Rattle.std.proofs.Common.{refl, ap, sym, ◌∙◌, subst, List, ◌<◌, length, map}
use Rattle.book_state.specs.declared.metrics.MetricRow.{MetricRow}
use Rattle.book_state.specs.Step.{change_at}
use Rattle.book_state.specs.Metrics.{metric_of, with_text}
use Rattle.book_state.specs.MetricsKept.{IsIndexed}
use Rattle.book_state.proofs.Lists.{set_read}
use Rattle.book_state.proofs.Changing.{changed_indexed}
use Rattle.book_state.proofs.metrics.MetricTable.set_text.Goals as goal

pub invariant_of-self : goal.invariant_of-self
invariant_of-self c =
    let within : c.args.id < length c.self.inside.rows.items = subst (λ (rows : List MetricRow). c.args.id < length rows) (sym c.self.view_is) c.requires in
    subst (λ (rows : List MetricRow). IsIndexed (map metric_of rows) c.self.inside.known.entries c.self.inside.histograms)
    (sym (set_read (with_text c.args.text) c.self.inside.rows.items c.args.id c.index_mut.result.now _ within c.index_mut.ensures.value refl))
    (changed_indexed c.self.inside.known.entries c.self.inside.histograms (with_text c.args.text) c.args.id c.self.inside.rows.items (λ row at. record { gone = refl; kind = refl; name = refl }) c.self.invariant)

pub returns : goal.returns
returns c =
    let within : c.args.id < length c.self.inside.rows.items = subst (λ (rows : List MetricRow). c.args.id < length rows) (sym c.self.view_is) c.requires in
    set_read (with_text c.args.text) c.self.inside.rows.items c.args.id c.index_mut.result.now _ within c.index_mut.ensures.value refl
    ∙ ap (λ (rows : List MetricRow). change_at (with_text c.args.text) c.args.id rows) c.self.view_is
