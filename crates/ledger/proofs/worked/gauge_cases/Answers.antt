use Rattle.std.proofs.Common.{refl, sym, arith}
use Rattle.book_state.proofs.Lists.{true_false}
use Rattle.ledger.proofs.worked.gauge_cases.Goals as goal

pub returns : goal.returns
returns c = record {
  sum = λ word left. left.no_set refl;
  alone = λ word left. left.one_mover (omega arith);
  nothing = λ word. record {
    no_set = λ none. absurd (true_false (sym none));
    one_mover = λ one. absurd (omega (arith, one));
    last_sets = λ some all. absurd (true_false (sym all));
  };
  none = λ word left. left.no_set refl;
}
