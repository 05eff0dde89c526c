-- What stands in a list, and where.
use Rattle.std.proofs.Common.{◌≡◌, ◌≢◌, ℕ, zero, suc, ◌||◌, Bool, true, false, cond, Some, List, [], ◌∷◌, ◌++◌, filter, length, slice_get, All, refl, ap, sym, ◌∙◌, subst, inl, inr, ◌⊎◌}
use Rattle.std.proofs.lemmas.List.Elements.{All-nil, All-cons}
use Rattle.std.specs.List.{flat_map, list_any, list_all}
use Rattle.book_state.specs.Step.{change_at}
use Rattle.book_state.proofs.Lists.{eq_or, some_same, not_some, both, get_push_last, get_push_before, get_change_same, get_change_other, map_some}

abbrev pub Among : {X : Type 0} → List X → X → Type 0
Among xs x = (at : ℕ) × (slice_get xs at ≡ Some x)

front_step : {X : Type 0} (y : X) (xs ys : List X) (x : X) → (Among xs x → Among ys x) → (at : ℕ) → slice_get (y ∷ xs) at ≡ Some x → Among (y ∷ ys) x
front_step y xs ys x rest zero e = (zero, e)
front_step y xs ys x rest (suc at) e = let r = rest (at, e) in (suc r.0, r.1)

pub among_front : {X : Type 0} (xs ys : List X) (x : X) → Among xs x → Among (xs ++ ys) x
among_front [] ys x a = absurd (not_some x a.1)
among_front (y ∷ xs) ys x a = front_step y xs (xs ++ ys) x (among_front xs ys x) a.0 a.1

pub among_back : {X : Type 0} (xs ys : List X) (x : X) → Among ys x → Among (xs ++ ys) x
among_back [] ys x a = a
among_back (y ∷ xs) ys x a = let rest = among_back xs ys x a in (suc rest.0, rest.1)

among_later : {X : Type 0} (y : X) (xs ys : List X) (x : X) → Among xs x ⊎ Among ys x → Among (y ∷ xs) x ⊎ Among ys x
among_later y xs ys x (inl a) = inl (suc a.0, a.1)
among_later y xs ys x (inr a) = inr a

pub among_either : {X : Type 0} (xs ys : List X) (x : X) (at : ℕ) → slice_get (xs ++ ys) at ≡ Some x → Among xs x ⊎ Among ys x
among_either [] ys x at e = inr (at, e)
among_either (y ∷ xs) ys x zero e = inl (zero, e)
among_either (y ∷ xs) ys x (suc at) e = among_later y xs ys x (among_either xs ys x at e)

-- in lists joined end to end
pub among_flat : {X Y : Type 0} (f : X → List Y) (xs : List X) (i : ℕ) (x : X) (y : Y) → slice_get xs i ≡ Some x → Among (f x) y → Among (flat_map f xs) y
among_flat f [] i x y e a = absurd (not_some x e)
among_flat f (z ∷ xs) zero x y e a = among_front (f z) (flat_map f xs) y (subst (λ w. Among (f w) y) (sym (some_same z x e)) a)
among_flat f (z ∷ xs) (suc i) x y e a = among_back (f z) (flat_map f xs) y (among_flat f xs i x y e a)

pub flat_among : {X Y : Type 0} (f : X → List Y) (xs : List X) (y : Y) → Among (flat_map f xs) y → (i : ℕ) × (x : X) × (slice_get xs i ≡ Some x) × Among (f x) y
flat_among f [] y a = absurd (not_some y a.1)
flat_among f (z ∷ xs) y a = elim (among_either (f z) (flat_map f xs) y a.0 a.1) [
  | inl here ↦ (zero, z, refl, here)
  | inr later ↦ let rest = flat_among f xs y later in (suc rest.0, rest.1, rest.2, rest.3)
]

-- a place of a changed list
pub change_some : {X : Type 0} (f : X → X) (i : ℕ) (xs : List X) (k : ℕ) (y : X) → slice_get (change_at f i xs) k ≡ Some y
    → ((k ≡ i) × (x : X) × (slice_get xs i ≡ Some x) × (y ≡ f x)) ⊎ ((k ≢ i) × (slice_get xs k ≡ Some y))
change_some f i xs k y e = elim (eq_or k i) [
  | inl same ↦
      let was = map_some f (slice_get xs i) y (sym (get_change_same f i xs) ∙ (ap (λ (j : ℕ). slice_get (change_at f i xs) j) (sym same) ∙ e)) in
      inl (same, was.0, was.1, was.2)
  | inr other ↦ inr (other, sym (get_change_other f i xs k other) ∙ e)
]

-- a place of a list with one more at its end
pub push_some : {X : Type 0} (xs : List X) (x : X) (k : ℕ) (y : X) → slice_get (xs ++ x ∷ []) k ≡ Some y
    → ((k ≡ length xs) × (y ≡ x)) ⊎ ((k ≢ length xs) × (slice_get xs k ≡ Some y))
push_some xs x k y e = elim (eq_or k (length xs)) [
  | inl last ↦ inl (last, some_same y x (sym e ∙ get_push_last xs x k last))
  | inr before ↦ inr (before, sym (get_push_before xs x k before) ∙ e)
]

filter_step : {X : Type 0} (p : X → Bool) (x : X) (xs : List X) (t : Bool) (i : ℕ) (y : X) → p x ≡ t → slice_get (cond t (x ∷ filter p xs) (filter p xs)) i ≡ Some y
    → ((j : ℕ) → slice_get (filter p xs) j ≡ Some y → Among xs y × (p y ≡ true)) → Among (x ∷ xs) y × (p y ≡ true)
filter_step p x xs true zero y is e rest = ((zero, e), subst (λ z. p z ≡ true) (some_same x y e) is)
filter_step p x xs true (suc i) y is e rest = let r = rest i e in ((suc r.0.0, r.0.1), r.1)
filter_step p x xs false i y is e rest = let r = rest i e in ((suc r.0.0, r.0.1), r.1)

pub filter_some : {X : Type 0} (p : X → Bool) (xs : List X) (i : ℕ) (y : X) → slice_get (filter p xs) i ≡ Some y → Among xs y × (p y ≡ true)
filter_some p [] i y e = absurd (not_some y e)
filter_some p (x ∷ xs) i y e = filter_step p x xs (p x) i y refl e (λ j q. filter_some p xs j y q)

pub all_each : {X : Type 0} (P : X → Type 0) (xs : List X) → ((i : ℕ) (x : X) → slice_get xs i ≡ Some x → P x) → All P xs
all_each P [] each = All-nil P
all_each P (x ∷ xs) each = All-cons P x xs (each zero x refl) (all_each P xs (λ i y e. each (suc i) y e))

pub all_passes : {X : Type 0} (p : X → Bool) (xs : List X) (i : ℕ) (x : X) → list_all p xs ≡ true → slice_get xs i ≡ Some x → p x ≡ true
all_passes p [] i x all e = absurd (not_some x e)
all_passes p (y ∷ xs) zero x all e = subst (λ z. p z ≡ true) (some_same y x e) (both (p y) (list_all p xs) all).0
all_passes p (y ∷ xs) (suc i) x all e = all_passes p xs i x (both (p y) (list_all p xs) all).1 e

any_push_step : (a b c d : Bool) → c ≡ (b || d) → (a || c) ≡ ((a || b) || d)
any_push_step true b c d e = refl
any_push_step false b c d e = e

pub any_push : {X : Type 0} (p : X → Bool) (xs : List X) (x : X) → list_any p (xs ++ x ∷ []) ≡ (list_any p xs || p x)
any_push p [] x = or_none (p x) where
  or_none : (t : Bool) → (t || false) ≡ t
  or_none true = refl
  or_none false = refl
any_push p (y ∷ xs) x = any_push_step (p y) (list_any p xs) (list_any p (xs ++ x ∷ [])) (p x) (any_push p xs x)

pub one_of : (a b : Bool) → (a || b) ≡ true → (a ≡ true) ⊎ (b ≡ true)
one_of true b e = inl refl
one_of false b e = inr e
