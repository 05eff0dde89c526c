-- Names that stand in their order, each once: two such lists with the same members are one list.
use Rattle.std.proofs.Common.{◌≡◌, ℕ, cond, Bool, true, false, List, [], ◌∷◌, map, refl, ap, sym, ◌∙◌, subst, inl, inr}
use Rattle.std.specs.declared.cmp.Ordering.{Ordering}
use Rattle.std.specs.declared.cmp.Ordering.TheVariants.{Less, Equal, Greater}
use Rattle.std.specs.List.{AllByRecursion}
use Rattle.std.specs.Cmp.{IsStrictWeakOrder}
use Rattle.std.specs.Ordering.{nat_cmp, is_lt, is_eq, ordering_reverse}
use Rattle.std.specs.Cmp.Lexicographic.{slice_cmp}
use Rattle.std.proofs.lemmas.Bool.{cases_Bool}
use Rattle.std.proofs.lemmas.Cmp.{nat_list_cmp_total}
use Rattle.std.proofs.lemmas.List.MinMax.{ranks_by}
use Rattle.std.proofs.lemmas.Map.Text.{is_eq-slice_cmp}
use Rattle.book_state.proofs.Lists.{true_false}
use Rattle.ledger.proofs.Lists.{cons_same}
use Rattle.flush_view.specs.ByName.{comes_before, put_by_name, by_name}
use Rattle.all_accepted.proofs.InLists.{In, Once, all_as, all_in}
use Rattle.all_accepted.proofs.Accepted.{text_is}

abbrev pub itself : List ℕ → List ℕ
itself n = n

abbrev pub lt : List ℕ → List ℕ → Bool
lt x y = comes_before itself x y

ranks : IsStrictWeakOrder lt
ranks = ranks_by nat_list_cmp_total itself

-- of two names of which none comes before the other, each is the other
level : (x y : List ℕ) → lt x y ≡ false → lt y x ≡ false → x ≡ y
level x y one other = by_order (slice_cmp nat_cmp x y) refl where
  by_order : (o : Ordering) → slice_cmp nat_cmp x y ≡ o → x ≡ y
  by_order Less is = absurd (true_false (sym (ap is_lt is) ∙ one))
  by_order Equal is = text_is x y (sym (is_eq-slice_cmp x y) ∙ ap is_eq is)
  by_order Greater is = absurd (true_false (sym (ap is_lt (nat_list_cmp_total.antisymm y x ∙ ap ordering_reverse is)) ∙ other))

before_all : (x y z : List ℕ) → lt x y ≡ true → lt y z ≡ true → lt x z ≡ true
before_all x y z one other = elim (cases_Bool (lt x z)) [
  | inl is ↦ is
  | inr not ↦ absurd (true_false (sym one ∙ ranks.chain x z y not (ranks.one_way y z other)))
]

never : (x : List ℕ) → lt x x ≡ false
never x = elim (cases_Bool (lt x x)) [ inl e ↦ ranks.one_way x x e | inr e ↦ e ]

abbrev pub Above : List ℕ → List (List ℕ) → Type 0
Above x ys = AllByRecursion (λ y. lt x y ≡ true) ys

abbrev pub Strict : List (List ℕ) → Type 0
Strict [] = Unit {0}
Strict (x ∷ xs) = Above x xs × Strict xs

abbrev put : List ℕ → List (List ℕ) → List (List ℕ)
put x ys = put_by_name itself x ys

abbrev step : List ℕ → List ℕ → List (List ℕ) → Bool → List (List ℕ)
step x y ys b = cond b (y ∷ put x ys) (x ∷ y ∷ ys)

put_above : (z x : List ℕ) (ys : List (List ℕ)) → Above z ys → lt z x ≡ true → Above z (put x ys)
put_above z x [] above one = (one, tt)
put_above z x (y ∷ ys) above one = by_case (lt y x) (put_above z x ys above.1 one) where
  by_case : (b : Bool) → Above z (put_by_name itself x ys) → Above z (cond b (y ∷ put_by_name itself x ys) (x ∷ y ∷ ys))
  by_case true rest = (above.0, rest)
  by_case false rest = (one, above)

put_strict : (x : List ℕ) (ys : List (List ℕ)) → Strict ys → (In ys x → ⊥) → Strict (put x ys)
put_strict x [] strict none = (tt, tt)
put_strict x (y ∷ ys) strict none = elim (cases_Bool (lt y x)) [
  | inl e ↦ subst (λ (b : Bool). Strict (step x y ys b)) (sym e) (put_above y x ys strict.0 e, put_strict x ys strict.1 (λ is. none (inr is)))
  | inr e ↦
      let less : lt x y ≡ true = elim (cases_Bool (lt x y)) [ inl is ↦ is | inr not ↦ absurd (none (inl (level y x e not))) ] in
      subst (λ (b : Bool). Strict (step x y ys b)) (sym e) ((less, all_as (λ z. lt y z ≡ true) (λ z. lt x z ≡ true) ys (λ z is. before_all x y z less is) strict.0), strict)
]

from_put : (x z : List ℕ) (ys : List (List ℕ)) → In (put x ys) z → In (x ∷ ys) z
from_put x z [] is = is
from_put x z (y ∷ ys) is = by_case (lt y x) is (from_put x z ys) where
  by_case : (b : Bool) → In (cond b (y ∷ put_by_name itself x ys) (x ∷ y ∷ ys)) z → (In (put_by_name itself x ys) z → In (x ∷ ys) z) → In (x ∷ y ∷ ys) z
  by_case false is rest = is
  by_case true (inl here) rest = inr (inl here)
  by_case true (inr there) rest = elim (rest there) [ inl same ↦ inl same | inr further ↦ inr (inr further) ]

to_put : (x z : List ℕ) (ys : List (List ℕ)) → In (x ∷ ys) z → In (put x ys) z
to_put x z [] is = is
to_put x z (y ∷ ys) is = by_case (lt y x) is (to_put x z ys) where
  by_case : (b : Bool) → In (x ∷ y ∷ ys) z → (In (x ∷ ys) z → In (put_by_name itself x ys) z) → In (cond b (y ∷ put_by_name itself x ys) (x ∷ y ∷ ys)) z
  by_case false is rest = is
  by_case true (inl same) rest = inr (rest (inl same))
  by_case true (inr (inl here)) rest = inl here
  by_case true (inr (inr there)) rest = inr (rest (inr there))

pub from_sorted : (z : List ℕ) (xs : List (List ℕ)) → In (by_name itself xs) z → In xs z
from_sorted z [] is = is
from_sorted z (x ∷ xs) is = elim (from_put x z (by_name itself xs) is) [ inl same ↦ inl same | inr there ↦ inr (from_sorted z xs there) ]

pub to_sorted : (z : List ℕ) (xs : List (List ℕ)) → In xs z → In (by_name itself xs) z
to_sorted z [] is = is
to_sorted z (x ∷ xs) (inl same) = to_put x z (by_name itself xs) (inl same)
to_sorted z (x ∷ xs) (inr there) = to_put x z (by_name itself xs) (inr (to_sorted z xs there))

pub sorted_strict : (xs : List (List ℕ)) → Once xs → Strict (by_name itself xs)
sorted_strict [] once = tt
sorted_strict (x ∷ xs) once = put_strict x (by_name itself xs) (sorted_strict xs once.1) (λ is. once.0 (from_sorted x xs is))

strict_same : (xs ys : List (List ℕ)) → Strict xs → Strict ys → ((z : List ℕ) → In xs z → In ys z) → ((z : List ℕ) → In ys z → In xs z) → xs ≡ ys
strict_same [] [] one other to from = refl
strict_same [] (y ∷ ys) one other to from = absurd (from y (inl refl))
strict_same (x ∷ xs) [] one other to from = absurd (to x (inl refl))
strict_same (x ∷ xs) (y ∷ ys) one other to from =
    cons_same x y xs ys first (strict_same xs ys one.1 other.1 (λ z is. rest_to z is (to z (inr is))) (λ z is. rest_from z is (from z (inr is)))) where
      first : x ≡ y
      first = elim (to x (inl refl)) [
        | inl same ↦ sym same
        | inr there ↦ elim (from y (inl refl)) [
          | inl same ↦ same
          | inr here ↦
              let less : lt y x ≡ true = all_in (λ z. lt y z ≡ true) ys x other.0 there in
              let more : lt x y ≡ true = all_in (λ z. lt x z ≡ true) xs y one.0 here in
              absurd (true_false (sym more ∙ ranks.one_way y x less))
        ]
      ]

      rest_to : (z : List ℕ) → In xs z → In (y ∷ ys) z → In ys z
      rest_to z is (inr there) = there
      rest_to z is (inl same) =
          let less : lt x z ≡ true = all_in (λ w. lt x w ≡ true) xs z one.0 is in
          absurd (true_false (sym less ∙ ap (λ (w : List ℕ). lt w z) (first ∙ same) ∙ never z))

      rest_from : (z : List ℕ) → In ys z → In (x ∷ xs) z → In xs z
      rest_from z is (inr there) = there
      rest_from z is (inl same) =
          let less : lt y z ≡ true = all_in (λ w. lt y w ≡ true) ys z other.0 is in
          absurd (true_false (sym less ∙ ap (λ (w : List ℕ). lt w z) (sym first ∙ same) ∙ never z))

pub sorted_same : (xs ys : List (List ℕ)) → Once xs → Once ys → ((z : List ℕ) → In xs z → In ys z) → ((z : List ℕ) → In ys z → In xs z) → by_name itself xs ≡ by_name itself ys
sorted_same xs ys one other to from =
    strict_same (by_name itself xs) (by_name itself ys) (sorted_strict xs one) (sorted_strict ys other)
    (λ z is. to_sorted z ys (to z (from_sorted z xs is))) (λ z is. to_sorted z xs (from z (from_sorted z ys is)))

-- the names of members in their order
module _ {X : Type 0} (name : X → List ℕ) where
  map_put : (x : X) (ys : List X) → map name (put_by_name name x ys) ≡ put (name x) (map name ys)
  map_put x [] = refl
  map_put x (y ∷ ys) = by_case (comes_before name y x) (map_put x ys) where
    by_case : (b : Bool) → map name (put_by_name name x ys) ≡ put_by_name itself (name x) (map name ys)
        → map name (cond b (y ∷ put_by_name name x ys) (x ∷ y ∷ ys)) ≡ cond b (name y ∷ put_by_name itself (name x) (map name ys)) (name x ∷ name y ∷ map name ys)
    by_case true rest = ap (λ (l : List (List ℕ)). name y ∷ l) rest
    by_case false rest = refl

  pub map_sorted : (xs : List X) → map name (by_name name xs) ≡ by_name itself (map name xs)
  map_sorted [] = refl
  map_sorted (x ∷ xs) = map_put x (by_name name xs) ∙ ap (λ (l : List (List ℕ)). put (name x) l) (map_sorted xs)
