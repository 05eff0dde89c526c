use Rattle.std.proofs.Common.{[], ◌∷◌, refl, arith}
use Rattle.ledger.proofs.WorkedParts.{no_parts, nothing, one_rises, none_falls, no_pairs, increments_follow, increments_legal}
use Rattle.ledger.proofs.worked.a_report_without_an_end.Goals as goal

pub returns : goal.returns
returns c = record {
  not_read = λ read. absurd (omega (arith, read.an_end_each));
  history = record { legal = increments_legal; follows = (increments_follow 1, tt) };
  swept = record { number = refl; sweeps = refl; rising = one_rises 3; ended = refl };
  account = record {
    flushes = (record { sweep = refl; deltas = refl; gauges = refl; parts = no_parts ([] ∷ []) nothing }, tt);
    units = (refl, tt);
    values = (refl, tt);
    words = tt;
  };
  shown = record { number = refl; never_falls = none_falls; each = tt; rising = no_pairs };
}
