use Rattle.std.proofs.Common.{[], ◌∷◌, drop, refl, inr, arith}
use Rattle.std.specs.Prelude.{codes}
use Rattle.book_state.specs.Log.{Legal}
use Rattle.book_state.specs.Worked.{plain, root_alone}
use Rattle.book_state.proofs.Computed.{drawn_all}
use Rattle.book_state.proofs.WorkedParts.{legal_log, retired_first}
use Rattle.flush_view.specs.WorkedRows.{made_again}
use Rattle.flush_view.proofs.worked.a_name_made_again.Goals as goal

legal : Legal plain root_alone 1 made_again
legal = legal_log 1 _ refl (retired_first 0 (drop 4 made_again) (
  ((refl, omega arith), refl),
  ((refl, refl), ((inr (refl, tt), refl, refl), (((refl, refl), (refl, drawn_all [] (codes "t" ∷ codes "u" ∷ []) (1 ∷ 2 ∷ []) refl)), ((refl, tt), ((refl, refl), tt))))),
))

pub returns : goal.returns
returns c = record { legal = legal; units_left = refl; no_units_left = refl }
