use Rattle.std.proofs.Common.{[], ◌∷◌, refl, arith}
use Rattle.book_state.proofs.Lists.{not_some}
use Rattle.ledger.specs.Worked.{plain_plan, History, number_passed_over}
use Rattle.ledger.proofs.WorkedParts.{read_one, swept_once, none_shown, increments_read, no_parts, nothing}
use Rattle.ledger.proofs.worked.a_number_passed_over.Goals as goal

-- no number is in use, so 1 would have to be
no_history : History plain_plan number_passed_over → ⊥
no_history history =
    let draws = history.legal.steps.1.0.1.1.0 in
    let used = draws.lowest (λ k taken. absurd (not_some (taken.0, k) taken.1.1)) 1 (omega arith) (omega arith) in
    not_some (used.0, 1) used.1.1

pub returns : goal.returns
returns c = record {
  read = read_one _ _ _ _ refl increments_read;
  no_history = no_history;
  swept = swept_once _ _ _ refl refl;
  account = record {
    flushes = (record { sweep = refl; deltas = refl; gauges = refl; parts = no_parts ([] ∷ []) nothing }, tt);
    units = (refl, tt);
    values = (refl, tt);
    words = tt;
  };
  shown = none_shown _ _ _ _;
}
