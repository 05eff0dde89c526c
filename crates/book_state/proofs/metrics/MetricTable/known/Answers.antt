use Rattle.std.proofs.Common.{List, map, ap, ◌∙◌}
use Rattle.std.specs.Map.{lookup}
use Rattle.book_state.specs.contracts.tables.NameKeyPartialEq.TheImpl as key_eq
use Rattle.book_state.specs.declared.metrics.MetricRow.{MetricRow}
use Rattle.book_state.specs.State.{known_in}
use Rattle.book_state.specs.Metrics.{metric_of}
use Rattle.book_state.proofs.Listing.{found_is}
use Rattle.book_state.proofs.metrics.MetricTable.known.Goals as goal

pub returns : goal.returns
returns c =
    c.number_of.ensures
    ∙ (ap (λ names. lookup (key_eq.eq-value.it c.args.name.now) names) c.self.invariant.known_are
    ∙ (found_is c.args.name.now.kind c.args.name.now.name 0 (map metric_of c.self.inside.rows.items)
    ∙ ap (λ (rows : List MetricRow). known_in (map metric_of rows) c.args.name.now.kind c.args.name.now.name) c.self.view_is))
