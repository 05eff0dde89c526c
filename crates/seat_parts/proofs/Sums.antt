-- Sums over lists, also lists that change at one place.
use Rattle.std.proofs.Common.{◌≡◌, ℕ, zero, suc, ◌+◌, ◌*◌, ◌≤◌, List, [], ◌∷◌, ◌++◌, length, set, get_or, sym, refl, ap, subst, arith, add-mul, All}
use Rattle.std.proofs.lemmas.List.Elements.{All-nil, All-cons, All-head, All-tail}
use mathlib.Core.Option.{some, some-injective, some-ne-none}
use lib.ListN.{get_elem?}
use Rattle.seat_parts.specs.Parts.{total}

module _ {A : Type 0} where
  pub total-append : (f : A → ℕ) (l m : List A) → total f (l ++ m) ≡ total f l + total f m
  total-append f [] m = omega arith
  total-append f (x ∷ xs) m = omega (arith, total-append f xs m)

  pub total-set : (f : A → ℕ) (l : List A) (j : ℕ) (v w : A) → get_elem? l j ≡ some v → total f (set l j w) + f v ≡ total f l + f w
  total-set f [] j v w e = absurd (some-ne-none v (sym e))
  total-set f (x ∷ xs) zero v w e = omega (arith, ap f (some-injective x v e))
  total-set f (x ∷ xs) (suc j) v w e = omega (arith, total-set f xs j v w e)

  -- terms that are at most b times the terms of a weight
  pub total-bound : (f weight : A → ℕ) (b : ℕ) (P : A → Type 0) → ((x : A) → P x → f x ≤ weight x * b) → (l : List A) → All P l → total f l ≤ total weight l * b
  total-bound f weight b P each [] e = omega arith
  total-bound f weight b P each (x ∷ xs) e = omega (arith, each x (All-head P x xs e), total-bound f weight b P each xs (All-tail P x xs e), add-mul (weight x) (total weight xs) b)

  pub total-ones : (l : List A) → total (λ (_ : A). 1) l ≡ length l
  total-ones [] = refl
  total-ones (x ∷ xs) = omega (arith, total-ones xs)

  -- where the weight is 0 in all, each term that a weight of 0 makes 0 is 0
  pub total-none : (f weight : A → ℕ) (P : A → Type 0) → ((x : A) → P x → weight x ≡ 0 → f x ≡ 0) → (l : List A) → All P l → total weight l ≡ 0 → total f l ≡ 0
  total-none f weight P each [] e z = refl
  total-none f weight P each (x ∷ xs) e z = omega (arith, each x (All-head P x xs e) (omega arith), total-none f weight P each xs (All-tail P x xs e) (omega arith))

  pub term-le : (f : A → ℕ) (l : List A) (j : ℕ) (v : A) → get_elem? l j ≡ some v → f v ≤ total f l
  term-le f [] j v e = absurd (some-ne-none v (sym e))
  term-le f (x ∷ xs) zero v e = omega (arith, ap f (some-injective x v e))
  term-le f (x ∷ xs) (suc j) v e = omega (arith, term-le f xs j v e)

  -- an element with all of the weight has all of the sum
  pub total-one : (f weight : A → ℕ) (P : A → Type 0) → ((x : A) → P x → weight x ≡ 0 → f x ≡ 0) → (l : List A) → All P l → (j : ℕ) (v : A) → get_elem? l j ≡ some v → total weight l ≤ weight v → total f l ≡ f v
  total-one f weight P each [] e j v at le = absurd (some-ne-none v (sym at))
  total-one f weight P each (x ∷ xs) e zero v at le =
      let same = some-injective x v at in let w = ap weight same in let fv = ap f same in
      omega (arith, total-none f weight P each xs (All-tail P x xs e) (omega arith))
  total-one f weight P each (x ∷ xs) e (suc j) v at le =
      let t = term-le weight xs j v at in let z = each x (All-head P x xs e) (omega arith) in
      omega (arith, total-one f weight P each xs (All-tail P x xs e) j v at (omega arith))

  pub at-or : (l : List A) (j : ℕ) (x d : A) → get_elem? l j ≡ some x → get_or l j d ≡ x
  at-or [] j x d e = absurd (some-ne-none x (sym e))
  at-or (y ∷ ys) zero x d e = some-injective y x e
  at-or (y ∷ ys) (suc j) x d e = at-or ys j x d e

  pub all-at : (P : A → Type 0) (l : List A) (j : ℕ) (v : A) → All P l → get_elem? l j ≡ some v → P v
  all-at P [] j v e at = absurd (some-ne-none v (sym at))
  all-at P (x ∷ xs) zero v e at = subst P (some-injective x v at) (All-head P x xs e)
  all-at P (x ∷ xs) (suc j) v e at = all-at P xs j v (All-tail P x xs e) at

  pub all-mapped : (P Q : A → Type 0) → ((x : A) → P x → Q x) → (l : List A) → All P l → All Q l
  all-mapped P Q up l e k d h = up (get_or l k d) (e k d h)

  -- what each element keeps, which adds to each sum at most that sum
  pub all-in : (P Q : A → Type 0) (l : List A) → ((x : A) → P x → ((f : A → ℕ) → f x ≤ total f l) → Q x) → All P l → All Q l
  all-in P Q [] up e = All-nil Q
  all-in P Q (x ∷ xs) up e = All-cons Q x xs (up x (All-head P x xs e) (λ f. omega arith)) (all-in P Q xs (λ y p h. up y p (λ f. let k = h f in omega arith)) (All-tail P x xs e))

  set-le : (f : A → ℕ) (l : List A) (j : ℕ) (v w : A) → get_elem? l j ≡ some v → f w ≤ total f (set l j w)
  set-le f [] j v w at = absurd (some-ne-none v (sym at))
  set-le f (x ∷ xs) zero v w at = omega arith
  set-le f (x ∷ xs) (suc j) v w at = let h = set-le f xs j v w at in omega arith

  -- what each other element keeps where one becomes w, and is beside w in each sum T
  pub all-beside : (P Q : A → Type 0) (T : (A → ℕ) → ℕ) (l : List A) (j : ℕ) (v w : A) → ((x : A) → P x → ((f : A → ℕ) → f w + f x ≤ T f) → Q x) → get_elem? l j ≡ some v
      → ((f : A → ℕ) → total f (set l j w) ≤ T f) → All P l → Q w → All Q (set l j w)
  all-beside P Q T [] j v w up at le e q = absurd (some-ne-none v (sym at))
  all-beside P Q T (x ∷ xs) zero v w up at le e q = All-cons Q w xs q (all-in P Q xs (λ y p h. up y p (λ f. let a = h f in let b = le f in omega arith)) (All-tail P x xs e))
  all-beside P Q T (x ∷ xs) (suc j) v w up at le e q =
      All-cons Q x (set xs j w) (up x (All-head P x xs e) (λ f. let a = set-le f xs j v w at in let b = le f in omega arith)) (all-beside P Q T xs j v w up at (λ f. let b = le f in omega arith) (All-tail P x xs e) q)
