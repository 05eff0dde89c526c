use Rattle.std.proofs.Common.{◌^◌, arith}
use Rattle.std.proofs.lemmas.Nat.{mul-le}
use Rattle.loglinear_bins.specs.declared.place.TheConstants.{MAX_COUNT}
use Rattle.text_parts.proofs.measures.sum_at.Goals as goal

pub overflow_mul-result : goal.overflow_mul-result
overflow_mul-result c = omega (arith, mul-le c.from.result c.mark_twentieths.result MAX_COUNT (2 ^ 73) (omega (arith, c.requires.few)) (omega arith))
