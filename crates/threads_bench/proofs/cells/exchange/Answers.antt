use Rattle.std.proofs.Common.{arith}
use Rattle.turn_cell.specs.Tokens.{worker_known}
use Rattle.threads_bench.proofs.Weightless.{weightless}
use Rattle.threads_bench.proofs.cells.exchange.Goals as goal

pub turn-mine-requires-clause-weights : goal.turn-mine-requires-clause-weights
turn-mine-requires-clause-weights g = let z = weightless (worker_known g.asked.new.w) in omega (arith, z)
