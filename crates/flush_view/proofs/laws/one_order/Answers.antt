use Rattle.flush_view.specs.Views.{row_name}
use Rattle.flush_view.proofs.Ordered.{in_order}
use Rattle.flush_view.proofs.laws.one_order.Goals as goal

pub returns : goal.returns
returns c = record { rows = in_order row_name; symbols = in_order (λ metric. metric.name) }
