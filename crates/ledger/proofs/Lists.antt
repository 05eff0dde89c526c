-- Equal lists and numbers, place by place.
use Rattle.std.proofs.Common.{◌≡◌, ◌≢◌, ◌==◌, ℕ, true, false, Bool, List, [], ◌∷◌, ◌++◌, length, refl, ap, sym, ◌∙◌, inl, inr, arith}
use Rattle.std.proofs.lemmas.Bool.Decides.{eqb_tells}
use Rattle.stat_defs.specs.declared.ids.MetricId.{MetricId}
use Rattle.book_state.proofs.Lists.{true_false}

abbrev is_nil : {X : Type 0} → List X → Bool
is_nil [] = true
is_nil (x ∷ xs) = false

pub nil_cons : {X : Type 0} (x : X) (xs : List X) → [] ≡ x ∷ xs → ⊥
nil_cons {X} x xs e = true_false (ap (λ (l : List X). is_nil l) e)

pub cons_same : {X : Type 0} (x y : X) (xs ys : List X) → x ≡ y → xs ≡ ys → x ∷ xs ≡ y ∷ ys
cons_same x y xs ys e f = cc

pub head_same : {X : Type 0} (x y : X) (xs ys : List X) → x ∷ xs ≡ y ∷ ys → x ≡ y
head_same x y xs ys e = cc

pub tail_same : {X : Type 0} (x y : X) (xs ys : List X) → x ∷ xs ≡ y ∷ ys → xs ≡ ys
tail_same x y xs ys e = cc

pub both_appended : {X : Type 0} (xs ys zs ws : List X) → xs ≡ ys → zs ≡ ws → xs ++ zs ≡ ys ++ ws
both_appended {X} xs ys zs ws e f = ap (λ (l : List X). l ++ zs) e ∙ ap (λ (l : List X). ys ++ l) f

pub no_push : {X : Type 0} (xs : List X) (x : X) → [] ≡ xs ++ x ∷ [] → ⊥
no_push [] x e = nil_cons x [] e
no_push (y ∷ xs) x e = nil_cons y (xs ++ x ∷ []) e

pub push_parts : {X : Type 0} (xs ys : List X) (x y : X) → xs ++ x ∷ [] ≡ ys ++ y ∷ [] → (xs ≡ ys) × (x ≡ y)
push_parts [] [] x y e = (refl, head_same x y [] [] e)
push_parts [] (z ∷ ys) x y e = absurd (no_push ys y (tail_same x z [] (ys ++ y ∷ []) e))
push_parts (z ∷ xs) [] x y e = absurd (no_push xs x (sym (tail_same z y (xs ++ x ∷ []) [] e)))
push_parts (z ∷ xs) (w ∷ ys) x y e =
    let rest = push_parts xs ys x y (tail_same z w (xs ++ x ∷ []) (ys ++ y ∷ []) e) in
    (cons_same z w xs ys (head_same z w (xs ++ x ∷ []) (ys ++ y ∷ []) e) rest.0, rest.1)

pub none_of : {X : Type 0} (xs : List X) → length xs ≡ 0 → xs ≡ []
none_of [] e = refl
none_of (x ∷ xs) e = absurd (omega (arith, e))

pub one_of : {X : Type 0} (xs : List X) → length xs ≡ 1 → (x : X) × (xs ≡ x ∷ [])
one_of [] e = absurd (omega (arith, e))
one_of (x ∷ []) e = (x, refl)
one_of (x ∷ (y ∷ xs)) e = absurd (omega (arith, e))

pub number_apart : (a b : ℕ) → a ≢ b → (a == b) ≡ false
number_apart a b other = elim (eqb_tells a b) [ inl h ↦ absurd (other h.1) | inr h ↦ h.0 ]

pub number_same : (a b : ℕ) → a ≡ b → (a == b) ≡ true
number_same a b same = elim (eqb_tells a b) [ inl h ↦ h.0 | inr h ↦ absurd (h.1 same) ]

pub metric_id : (a b : MetricId) → a.0 ≡ b.0 → a ≡ b
metric_id a b e = ap (λ (n : ℕ). let id : MetricId = record { 0 = n } in id) e
