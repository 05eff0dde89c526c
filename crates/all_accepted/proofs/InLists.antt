-- Lists, and small facts of them.
use Rattle.std.proofs.Common.{◌≡◌, ◌≤◌, ℕ, zero, suc, cond, Bool, true, false, List, [], ◌∷◌, ◌++◌, map, length, refl, ap, sym, ◌∙◌, subst, arith, inl, inr, ◌⊎◌}
use Rattle.std.specs.Prelude.{filter, Contains}
use Rattle.std.specs.List.{AllByRecursion, flat_map}
use Rattle.book_state.specs.Step.{change_at}
use Rattle.book_state.proofs.Lists.{true_false}

pub all_parts : {X : Type 0} (P : X → Type 0) (xs ys : List X) → AllByRecursion P (xs ++ ys) → AllByRecursion P xs × AllByRecursion P ys
all_parts P [] ys ps = (tt, ps)
all_parts P (x ∷ xs) ys ps = let rest = all_parts P xs ys ps.1 in ((ps.0, rest.0), rest.1)

-- of the members of lists that were joined
pub all_apart : {X Y : Type 0} (P : Y → Type 0) (f : X → List Y) (xs : List X) → AllByRecursion P (flat_map f xs) → AllByRecursion (λ x. AllByRecursion P (f x)) xs
all_apart P f [] all = tt
all_apart P f (x ∷ xs) all = let parts = all_parts P (f x) (flat_map f xs) all in (parts.0, all_apart P f xs parts.1)

pub all_joined : {X : Type 0} (P : X → Type 0) (xs ys : List X) → AllByRecursion P xs → AllByRecursion P ys → AllByRecursion P (xs ++ ys)
all_joined P [] ys ps qs = qs
all_joined P (x ∷ xs) ys ps qs = (ps.0, all_joined P xs ys ps.1 qs)

pub all_as : {X : Type 0} (P Q : X → Type 0) (xs : List X) → ((x : X) → P x → Q x) → AllByRecursion P xs → AllByRecursion Q xs
all_as P Q [] f ps = tt
all_as P Q (x ∷ xs) f ps = (f x ps.0, all_as P Q xs f ps.1)

pub all_changed : {X : Type 0} (P : X → Type 0) (f : X → X) (i : ℕ) (xs : List X) → ((x : X) → P x → P (f x)) → AllByRecursion P xs → AllByRecursion P (change_at f i xs)
all_changed P f i [] keeps all = tt
all_changed P f zero (x ∷ xs) keeps all = (keeps x all.0, all.1)
all_changed P f (suc i) (x ∷ xs) keeps all = (all.0, all_changed P f i xs keeps all.1)

pub all_mapped : {X : Type 0} (P : X → Type 0) (f : X → X) (xs : List X) → ((x : X) → P x → P (f x)) → AllByRecursion P xs → AllByRecursion P (map f xs)
all_mapped P f [] keeps all = tt
all_mapped P f (x ∷ xs) keeps all = (keeps x all.0, all_mapped P f xs keeps all.1)

pub all_filtered : {X : Type 0} (P : X → Type 0) (p : X → Bool) (xs : List X) → AllByRecursion P xs → AllByRecursion P (filter p xs)
all_filtered P p [] all = tt
all_filtered {X} P p (x ∷ xs) all = by_case (p x) (all_filtered P p xs all.1) where
  by_case : (t : Bool) → AllByRecursion P (filter p xs) → AllByRecursion P (cond t (x ∷ filter p xs) (filter p xs))
  by_case true rest = (all.0, rest)
  by_case false rest = rest

-- members, by recursion
abbrev pub In : {X : Type 0} → List X → X → Type 0
In [] x = ⊥
In (y ∷ ys) x = (y ≡ x) ⊎ In ys x

pub in_list : {X : Type 0} (xs : List X) (x : X) → Contains xs x → In xs x
in_list [] x has = absurd (let low = has.1 in omega (arith, low))
in_list (y ∷ xs) x (zero, low, is) = inl is
in_list (y ∷ xs) x (suc k, low, is) = inr (in_list xs x (k, omega (arith, low), is))

pub all_in : {X : Type 0} (P : X → Type 0) (xs : List X) (x : X) → AllByRecursion P xs → In xs x → P x
all_in P [] x all is = absurd is
all_in P (y ∷ xs) x all (inl is) = subst P is all.0
all_in P (y ∷ xs) x all (inr is) = all_in P xs x all.1 is

-- none of them twice
abbrev pub Once : {X : Type 0} → List X → Type 0
Once [] = Unit {0}
Once (x ∷ xs) = (In xs x → ⊥) × Once xs

-- the list without one of its members
abbrev pub rid : {X : Type 0} → (xs : List X) → (x : X) → In xs x → List X
rid [] x is = []
rid (y ∷ ys) x (inl is) = ys
rid (y ∷ ys) x (inr is) = y ∷ rid ys x is

rid_short : {X : Type 0} (xs : List X) (x : X) (is : In xs x) → length xs ≡ suc (length (rid xs x is))
rid_short [] x is = absurd is
rid_short (y ∷ ys) x (inl is) = refl
rid_short (y ∷ ys) x (inr is) = ap suc (rid_short ys x is)

rid_in : {X : Type 0} (xs : List X) (x z : X) (is : In xs x) → In xs z → (x ≡ z → ⊥) → In (rid xs x is) z
rid_in [] x z is has apart = absurd is
rid_in (y ∷ ys) x z (inl is) (inl has) apart = absurd (apart (sym is ∙ has))
rid_in (y ∷ ys) x z (inl is) (inr has) apart = has
rid_in (y ∷ ys) x z (inr is) (inl has) apart = inl has
rid_in (y ∷ ys) x z (inr is) (inr has) apart = inr (rid_in ys x z is has apart)

rid_all : {X : Type 0} (names : List X) (x : X) (is : In names x) (xs : List X) → AllByRecursion (In names) xs → (In xs x → ⊥) → AllByRecursion (In (rid names x is)) xs
rid_all names x is [] all none = tt
rid_all names x is (z ∷ xs) all none = (rid_in names x z is all.0 (λ same. none (inl (sym same))), rid_all names x is xs all.1 (λ has. none (inr has)))

-- a list without doubles is no longer than one that has all its members
pub no_longer : {X : Type 0} (xs names : List X) → Once xs → AllByRecursion (In names) xs → length xs ≤ length names
no_longer [] names once all = omega arith
no_longer (x ∷ xs) names once all =
    let rest = no_longer xs (rid names x all.0) once.1 (rid_all names x all.0 xs all.1 once.0) in
    let short = rid_short names x all.0 in
    omega (arith, rest, short)

pub in_filter : {X : Type 0} (p : X → Bool) (xs : List X) (x : X) → In xs x → p x ≡ true → In (filter p xs) x
in_filter p [] x is passes = absurd is
in_filter {X} p (y ∷ xs) x (inl is) passes = by_case (p y) refl where
  by_case : (t : Bool) → p y ≡ t → In (cond t (y ∷ filter p xs) (filter p xs)) x
  by_case true e = inl is
  by_case false e = absurd (true_false (sym passes ∙ ap p (sym is) ∙ e))
in_filter {X} p (y ∷ xs) x (inr is) passes = by_case (p y) (in_filter p xs x is passes) where
  by_case : (t : Bool) → In (filter p xs) x → In (cond t (y ∷ filter p xs) (filter p xs)) x
  by_case true rest = inr rest
  by_case false rest = rest

pub from_filter : {X : Type 0} (p : X → Bool) (xs : List X) (x : X) → In (filter p xs) x → In xs x
from_filter p [] x is = absurd is
from_filter {X} p (y ∷ xs) x is = by_case (p y) is (from_filter p xs x) where
  by_case : (t : Bool) → In (cond t (y ∷ filter p xs) (filter p xs)) x → (In (filter p xs) x → In xs x) → In (y ∷ xs) x
  by_case true (inl here) rest = inl here
  by_case true (inr there) rest = inr (rest there)
  by_case false there rest = inr (rest there)

pub once_filter : {X : Type 0} (p : X → Bool) (xs : List X) → Once xs → Once (filter p xs)
once_filter p [] once = tt
once_filter {X} p (y ∷ xs) once = by_case (p y) (once_filter p xs once.1) where
  by_case : (t : Bool) → Once (filter p xs) → Once (cond t (y ∷ filter p xs) (filter p xs))
  by_case true rest = ((λ is. once.0 (from_filter p xs y is)), rest)
  by_case false rest = rest

pub all_in_filter : {X : Type 0} (p : X → Bool) (names xs : List X) → AllByRecursion (In names) xs → AllByRecursion (In (filter p names)) (filter p xs)
all_in_filter p names [] all = tt
all_in_filter {X} p names (x ∷ xs) all = by_case (p x) refl (all_in_filter p names xs all.1) where
  by_case : (t : Bool) → p x ≡ t → AllByRecursion (In (filter p names)) (filter p xs) → AllByRecursion (In (filter p names)) (cond t (x ∷ filter p xs) (filter p xs))
  by_case true e rest = (in_filter p names x all.0 e, rest)
  by_case false e rest = rest

pub once_push : {X : Type 0} (xs : List X) (x : X) → Once xs → (In xs x → ⊥) → Once (xs ++ x ∷ [])
once_push [] x once none = ((λ is. is), tt)
once_push {X} (y ∷ xs) x once none = (apart, once_push xs x once.1 (λ is. none (inr is))) where
  split : (zs : List X) → In (zs ++ x ∷ []) y → In zs y ⊎ (x ≡ y)
  split [] (inl is) = inr is
  split [] (inr is) = absurd is
  split (z ∷ zs) (inl is) = inl (inl is)
  split (z ∷ zs) (inr is) = elim (split zs is) [ inl has ↦ inl (inr has) | inr same ↦ inr same ]

  apart : In (xs ++ x ∷ []) y → ⊥
  apart is = elim (split xs is) [ inl has ↦ once.0 has | inr same ↦ none (inl (sym same)) ]

pub same_once : {X : Type 0} (xs ys : List X) → xs ≡ ys → Once xs → Once ys
same_once {X} xs ys e once = subst (λ (l : List X). Once l) e once
