use Rattle.std.proofs.Common.{[], ◌∷◌, refl}
use Rattle.ledger.specs.Ledger.{RunLedger}
use Rattle.ledger.specs.Worked.{plain_plan, file_of, of_increments, increments}
use Rattle.ledger.proofs.WorkedParts.{read_one, swept_once, none_shown, reported, increments_follow, increments_legal, increments_read, no_parts, nothing}
use Rattle.ledger.proofs.worked.two_increments.Goals as goal

ledger : RunLedger (file_of increments ∷ []) (increments ∷ []) plain_plan of_increments
ledger = record {
  read = read_one _ _ _ _ refl increments_read;
  history = record { legal = increments_legal; follows = (increments_follow 1, tt) };
  swept = swept_once _ _ _ refl refl;
  account = record {
    flushes = (record { sweep = refl; deltas = refl; gauges = refl; parts = no_parts ([] ∷ []) nothing }, tt);
    units = (refl, tt);
    values = (refl, tt);
    words = tt;
  };
  shown = none_shown _ _ _ _;
}

pub returns : goal.returns
returns c = reported increments of_increments ledger ledger
