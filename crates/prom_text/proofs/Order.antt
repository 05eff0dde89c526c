-- The one order that a stable sort gives.
use Rattle.std.proofs.Common.{◌≡◌, Bool, true, false, not, ◌&&◌, if◌then◌else◌, List, [], ◌∷◌, map, filter, refl, sym, ap, ◌∙◌, subst}
use Rattle.std.specs.Cmp.{IsStrictWeakOrder}
use Rattle.std.specs.List.{AllByRecursion}
use Rattle.std.specs.List.Sorted.{IsSortedBy, IsStableBy, ties}
use Rattle.text_parts.proofs.Rising.{Rises, rises_sorted, all_behind}
use Rattle.prom_text.specs.Members.{inserted, in_order}

tie-self : {X : Type 0} (lt : X → X → Bool) → IsStrictWeakOrder lt → (x : X) → lt x x ≡ false
tie-self lt o x =
    let cases : (b : Bool) → lt x x ≡ b → lt x x ≡ false =
    λ b. elim b as (λ b. lt x x ≡ b → lt x x ≡ false) [ true ↦ λ e. o.one_way x x e | false ↦ λ e. e ] in cases (lt x x) refl

-- what holds of a value and of the others holds of all of them in order
pub all_placed : {X : Type 0} (lt : X → X → Bool) (P : X → Type 0) (x : X) (ys : List X) → P x → AllByRecursion P ys
    → AllByRecursion P (inserted lt x ys)
all_placed lt P x [] p q = (p, tt)
all_placed lt P x (y ∷ ys) p q =
    elim (lt y x) as (λ b. AllByRecursion P (if b then y ∷ inserted lt x ys else x ∷ y ∷ ys)) [
      | true ↦ (q.0, all_placed lt P x ys p q.1)
      | false ↦ (p, q)
    ]

-- what holds of all holds of all in order
pub all_in_order : {X : Type 0} (lt : X → X → Bool) (P : X → Type 0) (xs : List X) → AllByRecursion P xs
    → AllByRecursion P (in_order lt xs)
all_in_order lt P [] a = tt
all_in_order lt P (x ∷ xs) a = all_placed lt P x (in_order lt xs) a.0 (all_in_order lt P xs a.1)

rises_placed : {X : Type 0} (lt : X → X → Bool) → IsStrictWeakOrder lt → (x : X) (ys : List X) → Rises lt ys
    → Rises lt (inserted lt x ys)
rises_placed lt o x [] r = (tt, tt)
rises_placed lt o x (y ∷ ys) r =
    let cases : (b : Bool) → lt y x ≡ b → Rises lt (if b then y ∷ inserted lt x ys else x ∷ y ∷ ys) =
    λ b. elim b as (λ b. lt y x ≡ b → Rises lt (if b then y ∷ inserted lt x ys else x ∷ y ∷ ys)) [
      | true ↦ λ e. (all_placed lt (λ z. lt z y ≡ false) x ys (o.one_way y x e) r.0, rises_placed lt o x ys r.1)
      | false ↦ λ e. ((e, all_behind lt o x y ys e r.0), r)
    ] in
    cases (lt y x) refl

rises_in_order : {X : Type 0} (lt : X → X → Bool) → IsStrictWeakOrder lt → (xs : List X) → Rises lt (in_order lt xs)
rises_in_order lt o [] = tt
rises_in_order lt o (x ∷ xs) = rises_placed lt o x (in_order lt xs) (rises_in_order lt o xs)

left_false : (a b : Bool) → (not a && not b) ≡ true → a ≡ false
left_false true b h = cc
left_false false b h = refl

right_false : (a b : Bool) → (not a && not b) ≡ true → b ≡ false
right_false true b h = cc
right_false false true h = cc
right_false false false h = refl

-- a tie goes both ways
flipped : (a b : Bool) → (not a && not b) ≡ false → (not b && not a) ≡ false
flipped true true h = refl
flipped true false h = refl
flipped false true h = refl
flipped false false h = h

-- two that tie with one tie
tied : {X : Type 0} (lt : X → X → Bool) → IsStrictWeakOrder lt → (r x y : X) → ties lt r x ≡ true → ties lt r y ≡ true → lt x y ≡ false
tied lt o r x y p q = o.chain x r y (right_false (lt r x) (lt x r) p) (left_false (lt r y) (lt y r) q)

-- neighbours of which at most one is picked may change places
swapped : {X : Type 0} (b c : Bool) (x y : X) (picked others : List X) → (b ≡ true → c ≡ true → ⊥)
    → picked ≡ (if c then x ∷ others else others)
    → (if b then y ∷ picked else picked) ≡ (if c then x ∷ (if b then y ∷ others else others) else (if b then y ∷ others else others))
swapped true true x y picked others n e = absurd (n refl refl)
swapped true false x y picked others n e = ap (λ l. y ∷ l) e
swapped false true x y picked others n e = e
swapped false false x y picked others n e = e

-- a value that is placed among others stays before those that are picked with it, where none of them is before it
picked_placed : {X : Type 0} (lt : X → X → Bool) (p : X → Bool)
    → ((x y : X) → lt y x ≡ true → p y ≡ true → p x ≡ true → ⊥) → (x : X) (ys : List X) → filter p (inserted lt x ys) ≡ filter p (x ∷ ys)
picked_placed lt p n x [] = refl
picked_placed lt p n x (y ∷ ys) =
    let P : Bool → Type 0 = λ b. filter p (if b then y ∷ inserted lt x ys else x ∷ y ∷ ys) ≡ filter p (x ∷ y ∷ ys) in
    let cases : (b : Bool) → lt y x ≡ b → P b =
    λ b. elim b as (λ b. lt y x ≡ b → P b) [
      | true ↦ λ e. swapped (p y) (p x) x y (filter p (inserted lt x ys)) (filter p ys) (n x y e) (picked_placed lt p n x ys)
      | false ↦ λ e. refl
    ] in
    cases (lt y x) refl

-- those that are picked keep their order, where none of them is before another
pub keeps_picked : {X : Type 0} (lt : X → X → Bool) (p : X → Bool)
    → ((x y : X) → lt y x ≡ true → p y ≡ true → p x ≡ true → ⊥) → (xs : List X) → filter p (in_order lt xs) ≡ filter p xs
keeps_picked lt p n [] = refl
keeps_picked lt p n (x ∷ xs) =
    picked_placed lt p n x (in_order lt xs) ∙ ap (λ l. if p x then x ∷ l else l) (keeps_picked lt p n xs)

keeps_ties : {X : Type 0} (lt : X → X → Bool) → IsStrictWeakOrder lt → (r : X) (xs : List X)
    → filter (ties lt r) (in_order lt xs) ≡ filter (ties lt r) xs
keeps_ties lt o r xs =
    keeps_picked lt (ties lt r) (λ x y e p q. let k : lt y x ≡ false = tied lt o r y x p q in cc) xs

pub picked_first : {X : Type 0} (p : X → Bool) (x : X) (xs : List X) → p x ≡ true → filter p (x ∷ xs) ≡ x ∷ filter p xs
picked_first p x xs e = ap (λ b. if b then x ∷ filter p xs else filter p xs) e

pub passed_over : {X : Type 0} (p : X → Bool) (x : X) (xs : List X) → p x ≡ false → filter p (x ∷ xs) ≡ filter p xs
passed_over p x xs e = ap (λ b. if b then x ∷ filter p xs else filter p xs) e

-- what holds of all holds of the first that is picked
first_of_picked : {X : Type 0} (p : X → Bool) (P : X → Type 0) (y : X) (rest xs : List X) → AllByRecursion P xs
    → filter p xs ≡ y ∷ rest → P y
first_of_picked p P y rest [] a e = absurd (cc)
first_of_picked p P y rest (x ∷ xs) a e =
    let cases : (b : Bool) → (if b then x ∷ filter p xs else filter p xs) ≡ y ∷ rest → P y =
    λ b. elim b as (λ b. (if b then x ∷ filter p xs else filter p xs) ≡ y ∷ rest → P y) [
      | true ↦ λ q. let k : x ≡ y = cc in subst P k a.0
      | false ↦ λ q. first_of_picked p P y rest xs a.1 q
    ] in
    cases (p x) e

ties_when : {X : Type 0} (lt : X → X → Bool) (x y : X) → lt x y ≡ false → lt y x ≡ false → ties lt x y ≡ true
ties_when lt x y p q = ap (λ b. not b && not (lt y x)) p ∙ ap (λ b. not false && not b) q

-- the first values of two lists in order with the same ties tie
firsts_tie : {X : Type 0} (lt : X → X → Bool) → IsStrictWeakOrder lt → (y : X) (ys : List X) (z : X) (zs : List X)
    → Rises lt (y ∷ ys) → Rises lt (z ∷ zs) → ((r : X) → filter (ties lt r) (y ∷ ys) ≡ filter (ties lt r) (z ∷ zs)) → ties lt y z ≡ true
firsts_tie {X} lt o y ys z zs a b h =
    let self : (x : X) → ties lt x x ≡ true = λ x. ties_when lt x x (tie-self lt o x) (tie-self lt o x) in
    let cases : (c : Bool) → ties lt y z ≡ c → ties lt y z ≡ true =
    λ c. elim c as (λ c. ties lt y z ≡ c → ties lt y z ≡ true) [
      | true ↦ λ e. e
      | false ↦ λ e.
          let one : lt y z ≡ false =
          first_of_picked (ties lt y) (λ w. lt w z ≡ false) y (filter (ties lt y) ys) zs b.0
          (sym (passed_over (ties lt y) z zs e) ∙ sym (h y) ∙ picked_first (ties lt y) y ys (self y)) in
          let other_way : ties lt z y ≡ false = flipped (lt y z) (lt z y) e in
          let other : lt z y ≡ false =
          first_of_picked (ties lt z) (λ w. lt w y ≡ false) z (filter (ties lt z) zs) ys a.0
          (sym (passed_over (ties lt z) y ys other_way) ∙ h z ∙ picked_first (ties lt z) z zs (self z)) in
          ties_when lt y z one other
    ] in
    cases (ties lt y z) refl

stripped : {X : Type 0} (b : Bool) (y z : X) (ys zs : List X) → (if b then y ∷ ys else ys) ≡ (if b then z ∷ zs else zs) → ys ≡ zs
stripped true y z ys zs e = cc
stripped false y z ys zs e = e

-- two lists in order with the same ties are one
same_in_order : {X : Type 0} (lt : X → X → Bool) → IsStrictWeakOrder lt → (ys zs : List X) → Rises lt ys → Rises lt zs
    → ((r : X) → filter (ties lt r) ys ≡ filter (ties lt r) zs) → ys ≡ zs
same_in_order lt o [] [] a b h = refl
same_in_order lt o [] (z ∷ zs) a b h =
    let k : [] ≡ z ∷ filter (ties lt z) zs =
    h z ∙ picked_first (ties lt z) z zs (ties_when lt z z (tie-self lt o z) (tie-self lt o z)) in cc
same_in_order lt o (y ∷ ys) [] a b h =
    let k : y ∷ filter (ties lt y) ys ≡ [] =
    sym (picked_first (ties lt y) y ys (ties_when lt y y (tie-self lt o y) (tie-self lt o y))) ∙ h y in cc
same_in_order lt o (y ∷ ys) (z ∷ zs) a b h =
    let t : ties lt y z ≡ true = firsts_tie lt o y ys z zs a b h in
    let k : y ∷ filter (ties lt y) ys ≡ z ∷ filter (ties lt y) zs =
    sym (picked_first (ties lt y) y ys (ties_when lt y y (tie-self lt o y) (tie-self lt o y))) ∙ h y ∙ picked_first (ties lt y) z zs t in
    let e : y ≡ z = cc in
    let rest : ys ≡ zs =
    same_in_order lt o ys zs a.1 b.1 (λ r. stripped (ties lt r y) y z (filter (ties lt r) ys) (filter (ties lt r) zs)
    (h r ∙ ap (λ w. if ties lt r w then z ∷ filter (ties lt r) zs else filter (ties lt r) zs) (sym e))) in
    cc

-- what a stable sort gives
pub sorted_in_order : {X : Type 0} (lt : X → X → Bool) → IsStrictWeakOrder lt → (xs ys : List X) → IsSortedBy lt ys
    → IsStableBy lt xs ys → ys ≡ in_order lt xs
sorted_in_order lt o xs ys up stable =
    same_in_order lt o ys (in_order lt xs) (rises_sorted lt o ys up) (rises_in_order lt o xs)
    (λ r. stable r ∙ sym (keeps_ties lt o r xs))

map_placed : {X Y : Type 0} (f : X → Y) (lt : Y → Y → Bool) (x : X) (ys : List X)
    → map f (inserted (λ a b. lt (f a) (f b)) x ys) ≡ inserted lt (f x) (map f ys)
map_placed f lt x [] = refl
map_placed f lt x (y ∷ ys) =
    elim (lt (f y) (f x)) as (λ c. map f (if c then y ∷ inserted (λ a b. lt (f a) (f b)) x ys else x ∷ y ∷ ys)
    ≡ (if c then f y ∷ inserted lt (f x) (map f ys) else f x ∷ f y ∷ map f ys)) [
      | true ↦ ap (λ l. f y ∷ l) (map_placed f lt x ys)
      | false ↦ refl
    ]

-- what stands for values in order stands in order
pub map_in_order : {X Y : Type 0} (f : X → Y) (lt : Y → Y → Bool) (xs : List X)
    → map f (in_order (λ a b. lt (f a) (f b)) xs) ≡ in_order lt (map f xs)
map_in_order f lt [] = refl
map_in_order f lt (x ∷ xs) =
    map_placed f lt x (in_order (λ a b. lt (f a) (f b)) xs) ∙ ap (inserted lt (f x)) (map_in_order f lt xs)
