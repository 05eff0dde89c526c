use Rattle.std.proofs.Common.{subst, sym}
use Rattle.stat_defs.specs.declared.ids.Kind.TheVariants.{Gauge}
use Rattle.book_state.specs.declared.limits.TheConstants.{MAX_METRICS}
use Rattle.locked_book.specs.Lists.{AreMetrics}
use Rattle.name_list.proofs.Lists.{ids-below}
use Rattle.admin_side.proofs.known_names.KnownNames.gauges.Goals as goal

pub returns-clause-metrics : goal.returns-clause-metrics
returns-clause-metrics c = subst AreMetrics (sym c.gauges.ensures) (ids-below MAX_METRICS Gauge c.self.inside.list c.self.invariant.small)
