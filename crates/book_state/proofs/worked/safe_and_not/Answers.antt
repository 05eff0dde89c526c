use Rattle.std.proofs.Common.{◌≡◌, ℕ, [], ◌∷◌, drop, false, refl, sym, arith}
use Rattle.std.specs.Prelude.{codes}
use Rattle.std.proofs.lemmas.Slice.Eq.{bytes_eq-Decides}
use Rattle.book_state.specs.State.{Seat}
use Rattle.book_state.specs.Log.{Legal}
use Rattle.book_state.specs.Worked.{plain, root_alone, held_through_q}
use Rattle.book_state.specs.SafeWorked.{given_again}
use Rattle.book_state.proofs.Lists.{true_false}
use Rattle.book_state.proofs.Computed.{drawn_all}
use Rattle.book_state.proofs.WorkedParts.{legal_log, retired_first}
use Rattle.book_state.proofs.Safety.{legal_is_safe}
use Rattle.book_state.proofs.worked.safe_and_not.Goals as goal

other_token : (codes "u" ≡ codes "w") → ⊥
other_token e = true_false (sym ((bytes_eq-Decides (codes "u") (codes "w")).1 e))

any_seat : Seat
any_seat = record { tag = 0; held = []; ended = false }

one_two : ◌≡◌ {A = ℕ} 2 1 → ⊥
one_two e = absurd (omega (arith, e))

legal : Legal plain root_alone 2 given_again
legal = legal_log 2 _ refl (retired_first 1 (drop 4 given_again) (
  ((refl, omega arith), refl),
  (
    (refl, refl),
    (
      ((refl, refl), (refl, drawn_all ((codes "t", 1) ∷ (codes "u", 2) ∷ []) (codes "w" ∷ []) (3 ∷ []) refl)),
      (((refl, omega arith), refl), ((refl, refl), (((refl, refl), (refl, drawn_all ((codes "w", 3) ∷ []) (codes "x" ∷ []) (1 ∷ []) refl)), tt))),
    ),
  ),
))

pub returns : goal.returns
returns c = record {
  twice = λ safe. other_token (((safe.states 3).apart (codes "u") (codes "w") 1 1 (0, refl) (1, refl)).1 refl);
  lost = λ safe. true_false ((safe.states 7).held 0 any_seat (omega arith) 0 held_through_q (omega arith)).life;
  early = λ safe. true_false ((safe.states 6).held 0 any_seat (omega arith) 0 held_through_q (omega arith)).life;
  revived = λ safe. other_token (((safe.states 8).apart (codes "u") (codes "w") 1 1 (0, refl) (1, refl)).1 refl);
  unseen = λ safe. one_two ((safe.states 3).held 0 any_seat (omega arith) 0 held_through_q (omega arith)).as_many;
  safe = legal_is_safe.symbols plain root_alone 2 given_again legal;
  symbols = refl;
}
