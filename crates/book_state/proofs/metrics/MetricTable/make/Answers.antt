use Rattle.std.proofs.Common.{◌≡◌, ℕ, ◌<◌, ◌+◌, ◌++◌, ◌∷◌, [], List, map, length, ap, sym, ◌∙◌, subst, arith, rules}
use Rattle.std.proofs.lemmas.List.{length-map, map_push}
use Rattle.std.specs.Map.{lookup}
use Rattle.book_state.specs.contracts.tables.NameKeyPartialEq.TheImpl as key_eq
use Rattle.book_state.specs.declared.limits.TheConstants.{MAX_METRICS}
use Rattle.book_state.specs.declared.metrics.MetricRow.{MetricRow}
use Rattle.book_state.specs.declared.tables.NameKey.{NameKey}
use Rattle.stat_defs.specs.declared.metrics.Metric.{Metric}
use Rattle.book_state.specs.State.{known_in}
use Rattle.book_state.specs.Metrics.{metric_of}
use Rattle.book_state.specs.MetricsKept.{IsIndexed}
use Rattle.book_state.proofs.Listing.{found_is}
use Rattle.book_state.proofs.Changing.{made_indexed}
use Rattle.book_state.proofs.metrics.MetricTable.make.Goals as goal

pub list_name-requires-clause-new : goal.list_name-requires-clause-new
list_name-requires-clause-new c =
    ap (λ names. lookup (key_eq.eq-value.it c.args.name) names) (c.in_ok-reserve-2.ensures.entries ∙ c.self.invariant.known_are)
    ∙ (found_is c.args.name.kind c.args.name.name 0 (map metric_of c.self.inside.rows.items)
    ∙ (ap (λ (rows : List MetricRow). known_in (map metric_of rows) c.args.name.kind c.args.name.name) c.self.view_is ∙ c.requires.new))

pub invariant_of-self-2 : goal.invariant_of-self-2
invariant_of-self-2 c =
    let rows = c.self.inside.rows.items in
    let items : c.push_reserved.new.self.items ≡ rows ++ record { metric = c.args.metric; bearers = 1 } ∷ [] = c.push_reserved.ensures.items ∙ ap (λ (l : List MetricRow). l ++ record { metric = c.args.metric; bearers = 1 } ∷ []) c.in_ok-reserve.ensures.items in
    let many = length-map rows metric_of in
    let room : length rows < MAX_METRICS = subst (λ (l : List MetricRow). length l < MAX_METRICS) (sym c.self.view_is) c.requires.room in
    let id : c.len-id.result ≡ length rows = search rules in
    subst (λ (metrics : List Metric). IsIndexed metrics c.list_name.new.known.entries (c.self.inside.histograms + c.histogram.result)) (sym (ap (map metric_of) items ∙ map_push metric_of rows (record { metric = c.args.metric; bearers = 1 })))
    (made_indexed (map metric_of rows) c.self.inside.known.entries c.list_name.new.known.entries c.self.inside.histograms (c.self.inside.histograms + c.histogram.result) c.len-id.result c.args.name c.args.metric c.requires.named
    (omega (arith, many, room)) (omega (arith, id, many))
    (c.list_name.ensures ∙ ap (λ (l : List (NameKey × ℕ)). l ++ (c.args.name, c.len-id.result) ∷ []) c.in_ok-reserve-2.ensures.entries)
    (ap (λ (n : ℕ). c.self.inside.histograms + n) c.histogram.ensures) c.self.invariant)
