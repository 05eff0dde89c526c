use Rattle.std.proofs.Common.{[], ◌∷◌, refl, arith}
use Rattle.ledger.proofs.WorkedParts.{increments_read, no_parts, nothing, one_rises, increments_follow, increments_legal}
use Rattle.ledger.proofs.worked.a_reading_too_high.Goals as goal

pub returns : goal.returns
returns c = record {
  read = record { an_end_each = refl; verdicts_each = refl; a_verdict_each = refl; read = (increments_read, tt); counted = (refl, tt) };
  history = record { legal = increments_legal; follows = (increments_follow 1, tt) };
  swept = record { number = refl; sweeps = refl; rising = one_rises 3; ended = refl };
  account = record {
    flushes = (record { sweep = refl; deltas = refl; gauges = refl; parts = no_parts ([] ∷ []) nothing }, tt);
    units = (refl, tt);
    values = (refl, tt);
    words = tt;
  };
  not_shown = λ shown. absurd (omega (arith, shown.each.0.at_most.0));
}
