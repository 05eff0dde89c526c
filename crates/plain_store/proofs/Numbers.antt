-- Numbers in lists, by their places.
use Rattle.std.proofs.Common.{◌≡◌, ◌≢◌, ℕ, ◌<◌, ◌==◌, Bool, true, false, cond, List, length, set, refl, ap, sym, ◌∙◌, inl, inr}
use Rattle.std.proofs.lemmas.Bool.Decides.{Decides-eqb}
use Rattle.std.proofs.lemmas.List.{get_or-set_same, get_or-set_other}
use Rattle.book_state.proofs.Lists.{eq_or}
use Rattle.plain_store.specs.Sums.{number_at}

pub is_not : (i k : ℕ) → i ≢ k → (i == k) ≡ false
is_not i k other = by_case (i == k) refl where
  by_case : (t : Bool) → (i == k) ≡ t → t ≡ false
  by_case true e = absurd (other ((Decides-eqb i k).0 e))
  by_case false e = refl

pub set_number : (xs : List ℕ) (i y k : ℕ) → i < length xs → number_at (set xs i y) k ≡ cond (i == k) y (number_at xs k)
set_number xs i y k within = elim (eq_or i k) [
  | inl same ↦ ap (λ (j : ℕ). number_at (set xs i y) j) (sym same) ∙ (get_or-set_same xs i y 0 within ∙ sym (ap (λ (t : Bool). cond t y (number_at xs k)) ((Decides-eqb i k).1 same)))
  | inr other ↦ get_or-set_other xs i k y 0 (λ e. other (sym e)) ∙ sym (ap (λ (t : Bool). cond t y (number_at xs k)) (is_not i k other))
]
