use Rattle.std.proofs.Common.{refl, arith}
use Rattle.ledger.proofs.WorkedParts.{read_one, swept_once, none_shown, increments_follow, increments_legal, increments_read}
use Rattle.ledger.proofs.worked.a_unit_lost.Goals as goal

pub returns : goal.returns
returns c = record {
  read = read_one _ _ _ _ refl increments_read;
  history = record { legal = increments_legal; follows = (increments_follow 1, tt) };
  swept = swept_once _ _ _ refl refl;
  no_account = λ account. absurd (omega (arith, account.units.0));
  shown = none_shown _ _ _ _;
}
