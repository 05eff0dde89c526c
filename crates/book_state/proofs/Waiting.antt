-- Where one token is in use under 3, a new token gets 1 or 2.
use Rattle.std.proofs.Common.{◌≡◌, ◌≢◌, ℕ, zero, suc, ◌<◌, false, Some, List, [], ◌∷◌, slice_get, refl, ap, sym, ◌∙◌, subst, arith, inl, inr, ◌⊎◌}
use Rattle.std.proofs.lemmas.Slice.Eq.{bytes_eq-Decides}
use Rattle.book_state.specs.State.{same_text}
use Rattle.symbol_table.specs.Drawing.{Draws, DrawsAll}
use Rattle.book_state.proofs.Lists.{some_same, not_some, true_false}
use Rattle.book_state.proofs.Computed.{In}

abbrev three : List ℕ → List (List ℕ × ℕ)
three token = (token, 3) ∷ []

only_number : (token t : List ℕ) (k i : ℕ) → slice_get (three token) i ≡ Some (t, k) → k ≡ 3
only_number token t k zero at = sym (ap (λ (x : List ℕ × ℕ). x.1) (some_same (token, 3) (t, k) at))
only_number token t k (suc i) at = absurd (not_some (t, k) at)

only_token : (token t : List ℕ) (k i : ℕ) → slice_get (three token) i ≡ Some (t, k) → token ≡ t
only_token token t k zero at = ap (λ (x : List ℕ × ℕ). x.0) (some_same (token, 3) (t, k) at)
only_token token t k (suc i) at = absurd (not_some (t, k) at)

one_or_two : (n : ℕ) → 0 < n → n ≢ 3 → (3 < n → ⊥) → (n ≡ 1) ⊎ (n ≡ 2)
one_or_two zero pos other low = absurd (omega (arith, pos))
one_or_two (suc zero) pos other low = inl refl
one_or_two (suc (suc zero)) pos other low = inr refl
one_or_two (suc (suc (suc zero))) pos other low = absurd (other refl)
one_or_two (suc (suc (suc (suc n)))) pos other low = absurd (low (omega arith))

pub low_number : (token new : List ℕ) (n : ℕ) → same_text token new ≡ false → Draws (In (three token)) new n → (n ≡ 1) ⊎ (n ≡ 2)
low_number token new n differ d =
    let fresh = d.fresh (λ k u. absurd (true_false (sym ((bytes_eq-Decides token new).1 (only_token token new k u.0 u.1)) ∙ differ))) in
    one_or_two n fresh.0
    (λ e. fresh.1 (token, (zero, subst (λ (k : ℕ). slice_get (three token) zero ≡ Some (token, k)) (sym e) refl)))
    (λ high. let one = d.lowest (λ k u. let e = only_number token u.0 k u.1.0 u.1.1 in omega (arith, e, high)) 1 (omega arith) (omega (arith, high)) in
    let e = only_number token one.0 1 one.1.0 one.1.1 in absurd (omega (arith, e)))

pub low_numbers : (token new : List ℕ) (ns : List ℕ) → same_text token new ≡ false → DrawsAll (In (three token)) (new ∷ []) ns → (ns ≡ 1 ∷ []) ⊎ (ns ≡ 2 ∷ [])
low_numbers token new [] differ d = absurd d
low_numbers token new (n ∷ []) differ d = elim (low_number token new n differ d.0) [
  | inl e ↦ inl (ap (λ (k : ℕ). k ∷ []) e)
  | inr e ↦ inr (ap (λ (k : ℕ). k ∷ []) e)
]
low_numbers token new (n ∷ m ∷ ns) differ d = absurd d.1
