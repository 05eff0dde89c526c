use Rattle.std.proofs.Common.{[], ◌∷◌, refl, inl}
use Rattle.std.specs.Prelude.{codes}
use Rattle.loglinear_bins.specs.Bins.{low_tenths}
use Rattle.book_state.specs.Log.{Legal}
use Rattle.book_state.specs.Worked.{root_alone}
use Rattle.book_state.proofs.Computed.{drawn_all}
use Rattle.flush_view.specs.WorkedRows.{with_settings, two_texts}
use Rattle.flush_view.proofs.worked.texts_and_parts.Goals as goal

legal : Legal with_settings.names root_alone 2 two_texts
legal = record {
  rest = _;
  begins = refl;
  seats = refl;
  steps = (
    (inl refl, refl, refl),
    (
      ((refl, refl), (refl, drawn_all [] (codes "r" ∷ []) (1 ∷ []) refl)),
      (
        (refl, refl),
        (
          (refl, refl),
          (((refl, refl), (refl, drawn_all ((codes "r", 1) ∷ []) (codes "h_ms" ∷ []) (2 ∷ []) refl)), (((refl, refl), refl), ((refl, refl), ((refl, tt), ((refl, tt), ((refl, refl), tt)))))),
        ),
      ),
    ),
  );
}

pub returns : goal.returns
unfolding low_tenths
returns c = record { legal = legal; shows = refl }
