-- Sums over numbers that follow one another.
use Rattle.std.proofs.Common.{◌≡◌, ℕ, zero, suc, ◌+◌, ◌<◌, ◌≤◌, ◌==◌, cond, List, [], ◌∷◌, ◌++◌, length, refl, ap, sym, ◌∙◌, arith, inl, inr}
use Rattle.std.specs.Prelude.{get_or}
use Rattle.std.specs.List.{flat_map}
use Rattle.std.proofs.lemmas.Bool.Decides.{eqb_tells}

-- the sum of f over n numbers, from k on
unfoldable pub total_from : (ℕ → ℕ) → ℕ → ℕ → ℕ
total_from f k zero = 0
total_from f k (suc n) = f k + total_from f (suc k) n

pub total_none : (k n : ℕ) → total_from (λ j. 0) k n ≡ 0
unfolding total_from
total_none k zero = refl
total_none k (suc n) = let rest = total_none (suc k) n in omega (arith, rest)

pub total_shift : (f : ℕ → ℕ) (k n : ℕ) → total_from f (suc k) n ≡ total_from (λ j. f (suc j)) k n
unfolding total_from
total_shift f k zero = refl
total_shift f k (suc n) = ap (λ m. f (suc k) + m) (total_shift f (suc k) n)

pub total_both : (f g : ℕ → ℕ) (k n : ℕ) → total_from (λ j. f j + g j) k n ≡ total_from f k n + total_from g k n
unfolding total_from
total_both f g k zero = omega arith
total_both f g k (suc n) = let rest = total_both f g (suc k) n in omega (arith, rest)

pub total_same : (f g : ℕ → ℕ) (k n : ℕ) → ((j : ℕ) → f j ≡ g j) → total_from f k n ≡ total_from g k n
total_same f g k n same = ap (λ (h : ℕ → ℕ). total_from h k n) (λ i j. same j i)

-- a number that none of them is adds nothing
total_past : (v c k n : ℕ) → v < k → total_from (λ j. cond (v == j) c 0) k n ≡ 0
unfolding total_from
total_past v c k zero below = refl
total_past v c k (suc n) below = elim (eqb_tells v k) [
  | inl h ↦ let e = h.1 in absurd (omega (arith, below, e))
  | inr h ↦
      let head : cond (v == k) c 0 ≡ 0 = ap (λ b. cond b c 0) h.0 in
      let rest = total_past v c (suc k) n (omega (arith, below)) in
      omega (arith, head, rest)
]

-- one of them alone adds c
pub total_at : (v c k n : ℕ) → k ≤ v → v < k + n → total_from (λ j. cond (v == j) c 0) k n ≡ c
unfolding total_from
total_at v c k zero low high = absurd (omega (arith, low, high))
total_at v c k (suc n) low high = elim (eqb_tells v k) [
  | inl h ↦
      let e = h.1 in
      let head : cond (v == k) c 0 ≡ c = ap (λ b. cond b c 0) h.0 in
      let rest = total_past v c (suc k) n (omega (arith, e)) in
      omega (arith, head, rest)
  | inr h ↦
      let other = h.1 in
      let head : cond (v == k) c 0 ≡ 0 = ap (λ b. cond b c 0) h.0 in
      let rest = total_at v c (suc k) n (elim (eqb_tells (k + 0) v) [
        | inl same ↦ let e = same.1 in absurd (other (omega (arith, e)))
        | inr apart ↦ let ne = apart.1 in omega (arith, low, ne)
      ]) (omega (arith, high)) in
      omega (arith, head, rest)
]

-- what adds up over the members of a list adds up over their places
pub members : {X : Type 0} (h : List X → ℕ) → h [] ≡ 0 → ((xs ys : List X) → h (xs ++ ys) ≡ h xs + h ys) → (xss : List (List X))
    → total_from (λ k. h (get_or xss k [])) 0 (length xss) ≡ h (flat_map (λ xs. xs) xss)
unfolding total_from
members h none more [] = sym none
members h none more (xs ∷ xss) =
    ap (λ n. h xs + n) (total_shift (λ k. h (get_or (xs ∷ xss) k [])) 0 (length xss) ∙ members h none more xss)
    ∙ sym (more xs (flat_map (λ ys. ys) xss))
