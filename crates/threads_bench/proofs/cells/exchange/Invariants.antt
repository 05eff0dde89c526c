use Rattle.std.proofs.Common.{◌≡◌}
use Rattle.turn_cell.specs.Tokens.{cell_id, worker_known, idle_known}
use Rattle.threads_bench.proofs.cells.exchange.Given as goal

abbrev pub invariant-loop-round : goal.invariant-loop-round
invariant-loop-round l = ((worker_known l.worker).cell ≡ cell_id l.cell) × ((idle_known l.idle).cell ≡ cell_id l.cell)
