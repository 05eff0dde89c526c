use Rattle.std.proofs.Common.{◌≡◌, ◌*◌, ◌≤◌}
use Rattle.turn_cell.specs.Tokens.{cell_id, worker_known, weight_of}
use Rattle.thread_tests.proofs.turns.fill.Given as goal

abbrev pub invariant-loop : goal.invariant-loop
invariant-loop l = ((worker_known l.w).cell ≡ cell_id l.cell) × (weight_of (λ b. b.values) (worker_known l.w) ≡ l.values) × (l.values ≤ 12 * l.halves) × (l.halves ≤ 10000)
