use Rattle.std.proofs.Common.{◌≡◌, ℕ, [], ◌∷◌, ◌++◌, drop, true, refl, arith}
use Rattle.std.specs.Prelude.{codes}
use Rattle.book_state.specs.Log.{Legal}
use Rattle.book_state.specs.Worked.{plain, root_alone, to_second_sweep, makes}
use Rattle.book_state.proofs.Computed.{may_draw_all, drawn_all}
use Rattle.book_state.proofs.Waiting.{low_numbers}
use Rattle.book_state.proofs.WorkedParts.{legal_log, retired_first}
use Rattle.book_state.proofs.worked.sweep_waits.Goals as goal

x_drawn : (n : ℕ) → may_draw_all ((codes "w", 3) ∷ []) (codes "x" ∷ []) (n ∷ []) ≡ true → Legal plain root_alone 2 (to_second_sweep ++ makes 1 (codes "root") (codes "x") 2 (n ∷ []) ∷ [])
x_drawn n ok = legal_log 2 _ refl (retired_first 1 (drop 4 (to_second_sweep ++ makes 1 (codes "root") (codes "x") 2 (n ∷ []) ∷ [])) (
  ((refl, omega arith), refl),
  (
    (refl, refl),
    (
      ((refl, refl), (refl, drawn_all ((codes "t", 1) ∷ (codes "u", 2) ∷ []) (codes "w" ∷ []) (3 ∷ []) refl)),
      (((refl, omega arith), refl), ((refl, refl), (((refl, refl), (refl, drawn_all ((codes "w", 3) ∷ []) (codes "x" ∷ []) (n ∷ []) ok)), tt))),
    ),
  ),
))

pub returns : goal.returns
returns c = record {
  retired = refl;
  gone = refl;
  one = x_drawn 1 refl;
  two = x_drawn 2 refl;
  no_other = λ numbers allowed. low_numbers (codes "w") (codes "x") numbers refl allowed.1.1;
}
