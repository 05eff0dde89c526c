use Rattle.std.proofs.Common.{◌≡◌}
use Rattle.std.specs.Prelude.{MatchResult}
use Rattle.turn_cell.specs.Tokens.{cell_id, worker_known, note_known, flusher_known, holding_known, weight_of}
use Rattle.thread_tests.proofs.turns.says.Given as goal

abbrev pub invariant-loop-call : goal.invariant-loop-call
invariant-loop-call l =
    (goal.iterator-loop-call).can_next l.call-iterator ×
    (goal.iterator-loop-call).is_finite l.call-iterator ×
    MatchResult l.side (λ w. ((worker_known w).cell ≡ cell_id l.cell) × (weight_of (λ b. b.values) (worker_known w) ≡ 0)) (λ note. (note_known note).cell ≡ cell_id l.cell) ×
    MatchResult l.hand (λ f. (flusher_known f).cell ≡ cell_id l.cell) (λ h. (holding_known h).cell ≡ cell_id l.cell)
