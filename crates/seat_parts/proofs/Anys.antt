-- Splits, joins and steps keep what some part has.
use Rattle.std.proofs.Common.{◌≡◌, ◌<◌, ◌⊎◌, inl, inr, ⊎_elim, ℕ, zero, suc, ◌≤◌, List, [], ◌∷◌, ◌++◌, length, set, sym, refl, ap, ◌∙◌, subst, arith}
use Rattle.std.specs.List.{Any}
use mathlib.Core.Logic.{dite}
use native.Mathlib.Decide.{ℕ_discrete}
use Rattle.atomic_table.proofs.Lists.{at_index, at_longer, set_else, set_here}
use mathlib.Core.Option.{some, some-injective, some-ne-none}
use lib.ListN.{get_elem?}
use Rattle.seat_parts.specs.declared.Parts.{Parts}
use Rattle.seat_parts.specs.Parts.{total, parts_total, AnyPart, led_by, first_of, others_of, dealt, undealt, joined, spent}
use Rattle.seat_parts.proofs.Sums.{total-set, total-ones, term-le, at-or}

module _ {A : Type 0} where
  at-below : (l : List A) (j : ℕ) (x : A) → get_elem? l j ≡ some x → j < length l
  at-below [] j x e = absurd (some-ne-none x (sym e))
  at-below (y ∷ ys) zero x e = omega arith
  at-below (y ∷ ys) (suc j) x e = let h = at-below ys j x e in omega arith

  module _ (P : A → Type 0) where
    at-any : (l : List A) (j : ℕ) (x : A) → get_elem? l j ≡ some x → P x → Any P l
    at-any l j x e p = (j, x, at-below l j x e, at-or l j x x e, p)

    any-at : (l : List A) → Any P l → (j : ℕ) × (x : A) × (get_elem? l j ≡ some x) × P x
    any-at l a = (a.0, a.1, at_index l a.0 a.1 a.2 (sym a.3), a.4)

    any-one : (x : A) → P x → Any P (x ∷ [])
    any-one x p = at-any (x ∷ []) 0 x refl p

    any-cons : (x : A) (xs : List A) → Any P (x ∷ xs) → P x ⊎ Any P xs
    any-cons x xs (zero, y, h, e, p) = inl (subst P (sym e) p)
    any-cons x xs (suc k, y, h, e, p) = inr (k, y, omega arith, e, p)

    any-behind : (x : A) (xs : List A) → Any P xs → Any P (x ∷ xs)
    any-behind x xs a = (suc a.0, a.1, (let h = a.2 in omega arith), a.3, a.4)

    any-left : (l m : List A) → Any P l → Any P (l ++ m)
    any-left l m a = let t = any-at l a in at-any (l ++ m) t.0 t.1 (at_longer l m t.0 t.1 t.2) t.3

    any-right : (l m : List A) → Any P m → Any P (l ++ m)
    any-right [] m a = a
    any-right (x ∷ xs) m a = any-behind x (xs ++ m) (any-right xs m a)

  any-mapped : (P Q : A → Type 0) → ((x : A) → P x → Q x) → (l : List A) → Any P l → Any Q l
  any-mapped P Q up l a = (a.0, a.1, a.2, a.3, up a.1 a.4)

module _ {P : Type 0} where
  here-any : (F : P → Type 0) (p : P) (ps : List P) → F p → Any F (p ∷ ps)
  here-any F p ps f = at-any F (p ∷ ps) 0 p refl f

  cut-any : (F : P → Type 0) (ps : List P) → Any F ps → Any F (first_of ps) ⊎ Any F (others_of ps)
  cut-any F [] a = inl a
  cut-any F (p ∷ ps) a = ⊎_elim (λ f. inl (any-one F p f)) (λ n. inr n) (any-cons F p ps a)

  there : (views : List (Parts P)) (id : ℕ) (v w : Parts P) → get_elem? views id ≡ some v → get_elem? (set views id w) id ≡ some w
  there views id v w at = set_here views id w (at-below views id v at)

  -- where some part had F, some part has G after a step of the seat with the part p
  pub step-any : (F G : P → Type 0) (views : List (Parts P)) (id : ℕ) (p q : P) (ps : List P) → get_elem? views id ≡ some (led_by p ps) → (F p → G q) → ((x : P) → F x → G x) → AnyPart F views → AnyPart G (set views id (led_by q ps))
  step-any F G views id p q ps at own up a = let R : Parts P → Type 0 = λ z. Any G z.parts in let t = any-at (λ (z : Parts P). Any F z.parts) views a in
      dite (ℕ_discrete t.0 id)
      (λ e. at-any R (set views id (led_by q ps)) id (led_by q ps) (there views id (led_by p ps) (led_by q ps) at)
      (⊎_elim (λ f. here-any G q ps (own f)) (λ n. any-behind G q ps (any-mapped F G up ps n))
      (any-cons F p ps (subst (λ (z : Parts P). Any F z.parts) (some-injective t.1 (led_by p ps) (sym t.2 ∙ (ap (get_elem? views) e ∙ at))) t.3))))
      (λ n. at-any R (set views id (led_by q ps)) t.0 t.1 (set_else views id t.0 (led_by q ps) n ∙ t.2) (any-mapped F G up t.1.parts t.3))

  pub own-any : (G : P → Type 0) (views : List (Parts P)) (id : ℕ) (p q : P) (ps : List P) → get_elem? views id ≡ some (led_by p ps) → G q → AnyPart G (set views id (led_by q ps))
  own-any G views id p q ps at g = at-any (λ (z : Parts P). Any G z.parts) (set views id (led_by q ps)) id (led_by q ps) (there views id (led_by p ps) (led_by q ps) at) (here-any G q ps g)

  pub split-any : (F : P → Type 0) (views : List (Parts P)) (id : ℕ) (v : Parts P) → get_elem? views id ≡ some v → AnyPart F views → AnyPart F (set views id (undealt v) ++ dealt v ∷ [])
  split-any F views id v at a = let R : Parts P → Type 0 = λ z. Any F z.parts in let left : List (Parts P) = set views id (undealt v) in let t = any-at R views a in
      dite (ℕ_discrete t.0 id)
      (λ e. let own : Any F v.parts = subst R (some-injective t.1 v (sym t.2 ∙ (ap (get_elem? views) e ∙ at))) t.3 in
      ⊎_elim (λ f. any-right R left (dealt v ∷ []) (any-one R (dealt v) f))
      (λ o. any-left R left (dealt v ∷ []) (at-any R left id (undealt v) (there views id v (undealt v) at) o)) (cut-any F v.parts own))
      (λ n. any-left R left (dealt v ∷ []) (at-any R left t.0 t.1 (set_else views id t.0 (undealt v) n ∙ t.2) t.3))

  pub join-any : (F : P → Type 0) (views : List (Parts P)) (id other : ℕ) (v w : Parts P) → get_elem? views id ≡ some v → ¬ (other ≡ id) → get_elem? (set views id (joined v w)) other ≡ some w → AnyPart F views → AnyPart F (set (set views id (joined v w)) other spent)
  join-any F views id other v w at ne at' a = let R : Parts P → Type 0 = λ z. Any F z.parts in let mid : List (Parts P) = set views id (joined v w) in let t = any-at R views a in
      let here : get_elem? (set mid other spent) id ≡ some (joined v w) = set_else mid other id spent (λ e. ne (sym e)) ∙ there views id v (joined v w) at in
      dite (ℕ_discrete t.0 id)
      (λ e. at-any R (set mid other spent) id (joined v w) here (any-left F v.parts w.parts (subst R (some-injective t.1 v (sym t.2 ∙ (ap (get_elem? views) e ∙ at))) t.3)))
      (λ n. dite (ℕ_discrete t.0 other)
      (λ e. at-any R (set mid other spent) id (joined v w) here (any-right F v.parts w.parts (subst R (some-injective t.1 w (sym t.2 ∙ (ap (get_elem? views) e ∙ (sym (set_else views id other (joined v w) ne) ∙ at')))) t.3)))
      (λ m. at-any R (set mid other spent) t.0 t.1 (set_else mid other t.0 spent m ∙ (set_else views id t.0 (joined v w) n ∙ t.2)) t.3))

  -- a view with all parts has each fact that some part has
  pub one-any : (F : P → Type 0) (views : List (Parts P)) (id : ℕ) (v : Parts P) → get_elem? views id ≡ some v → parts_total (λ _. 1) views ≤ length v.parts → AnyPart F views → Any F v.parts
  one-any F views id v at le a = let R : Parts P → Type 0 = λ z. Any F z.parts in let t = any-at R views a in let size : Parts P → ℕ = λ z. total (λ (_ : P). 1) z.parts in
      dite (ℕ_discrete t.0 id)
      (λ e. subst R (some-injective t.1 v (sym t.2 ∙ (ap (get_elem? views) e ∙ at))) t.3)
      (λ n. let b = term-le size (set views t.0 spent) id v (set_else views t.0 id spent (λ e. n (sym e)) ∙ at) in let c = total-set size views t.0 t.1 spent t.2 in
      let ones = total-ones v.parts in let some-ones = total-ones t.1.parts in let below = t.3.2 in absurd (omega arith))
