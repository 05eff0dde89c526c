use Rattle.std.proofs.Common.{refl, ap, sym, List, [], ◌∷◌, inl}
use Rattle.std.specs.Prelude.{codes}
use Rattle.book_state.specs.Log.{Legal}
use Rattle.book_state.specs.Worked.{plain, root_alone}
use Rattle.book_state.proofs.Computed.{drawn_all}
use Rattle.book_state.proofs.WorkedParts.{legal_log}
use Rattle.flush_view.specs.WorkedRows.{of_one_name}
use Rattle.std.specs.Fmt.{digits}
use Rattle.stat_defs.specs.declared.views.CounterRow.{CounterRow}
use Rattle.stat_defs.specs.declared.views.FlushView.{FlushView}
use Rattle.stat_name.specs.Spelling.{spelling}
use Rattle.hex.specs.Hex.{encode_with}
use Rattle.flush_view.proofs.worked.names_in_order.Goals as goal

first_counters : List FlushView → List CounterRow
first_counters [] = []
first_counters (shown ∷ others) = shown.counters

legal : Legal plain root_alone 1 of_one_name
legal = legal_log 1 _ refl (
  (inl refl, refl, refl),
  (
    ((refl, refl), (refl, drawn_all [] (codes "a" ∷ []) (1 ∷ []) refl)),
    (
      ((refl, refl), (refl, drawn_all ((codes "a", 1) ∷ []) (codes "a" ∷ []) (1 ∷ []) refl)),
      (
        ((refl, refl), (refl, drawn_all ((codes "a", 1) ∷ (codes "a", 1) ∷ []) (codes "b" ∷ []) (2 ∷ []) refl)),
        (
          ((refl, refl), (refl, drawn_all ((codes "a", 1) ∷ (codes "a", 1) ∷ (codes "b", 2) ∷ []) (codes "a" ∷ []) (1 ∷ []) refl)),
          (
            ((refl, refl), (refl, drawn_all ((codes "a", 1) ∷ (codes "a", 1) ∷ (codes "b", 2) ∷ (codes "a", 1) ∷ []) (codes "a" ∷ codes "b" ∷ []) (1 ∷ 2 ∷ []) refl)),
            ((refl, tt), ((refl, refl), tt)),
          ),
        ),
      ),
    ),
  ),
)

pub returns : goal.returns
unfolding digits spelling encode_with first_counters
returns c = record { legal = legal; counters = λ shown is. sym (ap first_counters is); symbols = refl }
