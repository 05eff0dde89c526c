use Rattle.std.proofs.Common.{drop, refl, arith, inr}
use Rattle.book_state.specs.Worked.{found_again}
use Rattle.book_state.proofs.WorkedParts.{legal_log, retired_first}
use Rattle.book_state.proofs.worked.retired_and_found_again.Goals as goal

pub returns : goal.returns
returns c = record {
  legal = legal_log 2 _ refl (retired_first 1 (drop 4 found_again) (
    (inr (refl, tt), refl, refl),
    (((refl, refl), refl), (((refl, omega arith), refl), (((refl, omega arith), refl), ((refl, refl), tt)))),
  ));
  live = refl;
}
