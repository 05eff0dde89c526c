use Rattle.std.proofs.Common.{sym}
use Rattle.loglinear_bins.proofs.Tables.{total-view}
use Rattle.loglinear_bins.proofs.bins.Bins.count.Goals as goal

pub returns-clause-total : goal.returns-clause-total
returns-clause-total c = sym (total-view c.self.inside.counts.items c.self.inside.total c.args.self.now c.self.view_is c.self.invariant.0)
