use Rattle.std.proofs.Common.{◌≡◌}
use Rattle.std.specs.Prelude.{MatchResult}
use Rattle.turn_cell.specs.Tokens.{cell_id, flusher_known, holding_known}
use Rattle.thread_tests.proofs.turns.drain.Given as goal

abbrev pub invariant-loop : goal.invariant-loop
invariant-loop l = MatchResult l.hand (λ f. (flusher_known f).cell ≡ cell_id l.cell) (λ h. (holding_known h).cell ≡ cell_id l.cell)
