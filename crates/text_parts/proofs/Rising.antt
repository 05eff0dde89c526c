-- Lists in which no value is before one that stands ahead of it, by some order.
use Rattle.std.proofs.Common.{◌≡◌, ℕ, zero, suc, ◌<◌, ◌≤◌, Bool, false, List, [], ◌∷◌, ◌++◌, length, get_or, add-one, sym, subst, arith}
use Rattle.std.specs.Cmp.{IsStrictWeakOrder}
use Rattle.std.specs.List.{AllByRecursion}
use Rattle.std.specs.List.Sorted.{IsSortedBy}
use Rattle.std.proofs.lemmas.List.Sorted.{sorted_far}
use Rattle.std.proofs.lemmas.List.Elements.{recursion_from_All}

-- each value is followed by none that is before it
abbrev pub Rises : {X : Type 0} → (X → X → Bool) → List X → Type 0
Rises lt [] = Unit {0}
Rises lt (x ∷ xs) = AllByRecursion (λ y. lt y x ≡ false) xs × Rises lt xs

-- what holds of the values of two lists holds of both joined
pub all_joined : {X : Type 0} (P : X → Type 0) (xs ys : List X) → AllByRecursion P xs → AllByRecursion P ys → AllByRecursion P (xs ++ ys)
all_joined P [] ys a b = b
all_joined P (x ∷ xs) ys a b = (a.0, all_joined P xs ys a.1 b)

rises_at : {X : Type 0} (lt : X → X → Bool) (xs : List X)
    → ((i j : ℕ) (d : X) → i ≤ j → j < length xs → lt (get_or xs j d) (get_or xs i d) ≡ false) → Rises lt xs
rises_at lt [] h = tt
rises_at lt (x ∷ xs) h = (
  recursion_from_All (λ y. lt y x ≡ false) xs (λ k d l. h 0 (suc k) d (omega arith) (omega arith)),
  rises_at lt xs (λ i j d a b. h (suc i) (suc j) d (omega arith) (omega arith)),
)

-- sorted lists are such lists, and such lists are sorted
pub rises_sorted : {X : Type 0} (lt : X → X → Bool) → IsStrictWeakOrder lt → (xs : List X) → IsSortedBy lt xs → Rises lt xs
rises_sorted lt o xs up = rises_at lt xs (sorted_far lt o xs up)

next_up : {X : Type 0} (lt : X → X → Bool) (xs : List X) (k : ℕ) (d : X) → Rises lt xs → suc k < length xs
    → lt (get_or xs (suc k) d) (get_or xs k d) ≡ false
next_up lt [] k d r l = absurd (omega arith)
next_up lt (x ∷ []) k d r l = absurd (omega arith)
next_up lt (x ∷ y ∷ ys) zero d r l = r.0.0
next_up lt (x ∷ y ∷ ys) (suc k) d r l = next_up lt (y ∷ ys) k d r.1 (omega arith)

pub sorted_rising : {X : Type 0} (lt : X → X → Bool) (xs : List X) → Rises lt xs → IsSortedBy lt xs
sorted_rising lt xs r k d a b =
    subst (λ n. lt (get_or xs n d) (get_or xs k d) ≡ false) (sym (add-one k)) (next_up lt xs k d r (omega arith))

-- a value behind which none is before `y` is followed by none that is before what is not behind `y`
pub all_behind : {X : Type 0} (lt : X → X → Bool) → IsStrictWeakOrder lt → (x y : X) (ys : List X) → lt y x ≡ false
    → AllByRecursion (λ z. lt z y ≡ false) ys → AllByRecursion (λ z. lt z x ≡ false) ys
all_behind lt o x y [] h a = tt
all_behind lt o x y (z ∷ zs) h a = (o.chain z y x a.0 h, all_behind lt o x y zs h a.1)
