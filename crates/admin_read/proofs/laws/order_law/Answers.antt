use Rattle.admin_read.proofs.Order.{together_in_order, counters_stay, gauges_stay}
use Rattle.admin_read.proofs.laws.order_law.Goals as goal

pub returns : goal.returns
returns c = record { order = together_in_order; counters = counters_stay; gauges = gauges_stay }
