use Rattle.std.proofs.Common.{ap, ◌∙◌, arith, refl, []}
use Rattle.loglinear_bins.specs.Table.{listed}
use Rattle.loglinear_bins.proofs.Occupied.{none_occupied}
use Rattle.loglinear_bins.proofs.Tables.{listed-nil}
use Rattle.loglinear_bins.proofs.bins.Bins.new.Goals as goal

pub invariant_of-result : goal.invariant_of-result
invariant_of-result c = rw c.in_ok-with_capacity.ensures.items (
  record { within = omega arith; counted = refl; limit = omega arith },
  none_occupied [] (λ place _. refl),
  c.in_ok-with_capacity.ensures.capacity,
)

pub returns : goal.returns
returns c = ap (listed 0) c.in_ok-with_capacity.ensures.items ∙ listed-nil 0
