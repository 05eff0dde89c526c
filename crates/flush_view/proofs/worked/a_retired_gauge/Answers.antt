use Rattle.std.proofs.Common.{[], ◌∷◌, refl, inl, inr, arith}
use Rattle.std.specs.Prelude.{codes}
use Rattle.book_state.specs.Log.{Legal}
use Rattle.book_state.specs.Worked.{plain, root_alone}
use Rattle.book_state.proofs.Computed.{drawn_all}
use Rattle.book_state.proofs.WorkedParts.{legal_log}
use Rattle.flush_view.specs.WorkedRows.{gauge_retired}
use Rattle.flush_view.proofs.worked.a_retired_gauge.Goals as goal

legal : Legal plain root_alone 1 gauge_retired
legal = legal_log 1 _ refl (
  (inl refl, refl, refl),
  (
    (inr (refl, tt), refl, refl),
    (
      ((refl, refl), (refl, drawn_all [] (codes "t" ∷ codes "g" ∷ []) (1 ∷ 2 ∷ []) refl)),
      (((refl, tt), refl), ((refl, refl), (((refl, omega arith), refl), ((refl, refl), ((refl, tt), ((refl, refl), tt)))))),
    ),
  ),
)

pub returns : goal.returns
returns c = record { legal = legal; shows = refl; no_symbol = refl }
