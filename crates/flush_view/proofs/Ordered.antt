-- A list is put in order by names in one way.
use Rattle.std.proofs.Common.{◌≡◌, ℕ, zero, suc, ◌+◌, ◌&&◌, not, Bool, true, false, cond, List, [], ◌∷◌, refl, ap, sym, subst, ◌∙◌, arith, inl, inr}
use Rattle.std.specs.Prelude.{filter}
use Rattle.std.specs.Cmp.{IsStrictWeakOrder}
use Rattle.std.specs.List.Sorted.{IsSortedBy, ties}
use Rattle.std.proofs.lemmas.Bool.{cases_Bool}
use Rattle.std.proofs.lemmas.Cmp.{nat_list_cmp_total}
use Rattle.std.proofs.lemmas.List.MinMax.{ranks_by}
use Rattle.book_state.proofs.Lists.{true_false}
use Rattle.ledger.proofs.Lists.{nil_cons, cons_same, head_same, tail_same}
use Rattle.flush_view.specs.ByName.{comes_before, put_by_name, by_name, SortsByName}

both_false : (a b : Bool) → (not a && not b) ≡ true → (a ≡ false) × (b ≡ false)
both_false true b e = absurd (true_false (sym e))
both_false false true e = absurd (true_false (sym e))
both_false false false e = (refl, refl)

and_so : (a b : Bool) → a ≡ false → b ≡ false → (not a && not b) ≡ true
and_so true b e f = absurd (true_false e)
and_so false true e f = absurd (true_false f)
and_so false false e f = refl

module _ {X : Type 0} where
  -- of two members of which one alone is kept the order does not matter
  one_kept : (x y : X) (zs : List X) (a b : Bool) → (a ≡ true → b ≡ true → ⊥)
      → cond b (y ∷ cond a (x ∷ zs) zs) (cond a (x ∷ zs) zs) ≡ cond a (x ∷ cond b (y ∷ zs) zs) (cond b (y ∷ zs) zs)
  one_kept x y zs true true apart = absurd (apart refl refl)
  one_kept x y zs true false apart = refl
  one_kept x y zs false true apart = refl
  one_kept x y zs false false apart = refl

  same_kept : (x y : X) (xs ys : List X) (a b : Bool) → x ≡ y → a ≡ b → cond a (x ∷ xs) xs ≡ cond b (y ∷ ys) ys → xs ≡ ys
  same_kept x y xs ys true true e f same = tail_same x y xs ys same
  same_kept x y xs ys false false e f same = same
  same_kept x y xs ys true false e f same = absurd (true_false f)
  same_kept x y xs ys false true e f same = absurd (true_false (sym f))

module _ {X : Type 0} (name : X → List ℕ) where
  abbrev lt : X → X → Bool
  lt x y = comes_before name x y

  ranks : IsStrictWeakOrder lt
  ranks = ranks_by nat_list_cmp_total name

  never : (x : X) → lt x x ≡ false
  never x = elim (cases_Bool (lt x x)) [ inl e ↦ ranks.one_way x x e | inr e ↦ e ]

  abbrev Rises : X → List X → Type 0
  Rises x [] = Unit {0}
  Rises x (y ∷ ys) = (lt y x ≡ false) × Rises y ys

  abbrev AllRise : List X → Type 0
  AllRise [] = Unit {0}
  AllRise (x ∷ xs) = Rises x xs

  tail : (x : X) (xs : List X) → IsSortedBy lt (x ∷ xs) → IsSortedBy lt xs
  tail x xs sorted = λ k d low short. let next : suc k + 1 ≡ suc (k + 1) = omega arith in rw next at (sorted (suc k) d (omega arith) (omega (arith, short)))

  rises : (x : X) (xs : List X) → IsSortedBy lt (x ∷ xs) → Rises x xs
  rises x [] sorted = tt
  rises x (y ∷ ys) sorted = (sorted 0 y (omega arith) (omega arith), rises y ys (tail x (y ∷ ys) sorted))

  all_rise : (xs : List X) → IsSortedBy lt xs → AllRise xs
  all_rise [] sorted = tt
  all_rise (x ∷ xs) sorted = rises x xs sorted

  sorted_at : (x : X) (xs : List X) → Rises x xs → IsSortedBy lt (x ∷ xs)
  sorted_at x [] rise k d low short = absurd (omega (arith, short))
  sorted_at x (y ∷ ys) rise zero d low short = rise.0
  sorted_at x (y ∷ ys) rise (suc k) d low short =
      let next : suc k + 1 ≡ suc (k + 1) = omega arith in
      let rest = sorted_at y ys rise.1 k d (omega arith) (omega (arith, short)) in
      rw next rest

  is_sorted : (xs : List X) → AllRise xs → IsSortedBy lt xs
  is_sorted [] rise = λ k d low short. absurd (omega (arith, short))
  is_sorted (x ∷ xs) rise = sorted_at x xs rise

  abbrev step : X → X → List X → Bool → List X
  step x y ys b = cond b (y ∷ put_by_name name x ys) (x ∷ y ∷ ys)

  put-rises : (z x : X) (ys : List X) → Rises z ys → lt x z ≡ false → Rises z (put_by_name name x ys)
  put-rises z x [] rise above = (above, tt)
  put-rises z x (y ∷ ys) rise above = elim (cases_Bool (lt y x)) [
    | inl e ↦ subst (λ b. Rises z (step x y ys b)) (sym e) (rise.0, put-rises y x ys rise.1 (ranks.one_way y x e))
    | inr e ↦ subst (λ b. Rises z (step x y ys b)) (sym e) (above, (e, rise.1))
  ]

  put-all_rise : (x : X) (ys : List X) → AllRise ys → AllRise (put_by_name name x ys)
  put-all_rise x [] rise = tt
  put-all_rise x (y ∷ ys) rise = elim (cases_Bool (lt y x)) [
    | inl e ↦ subst (λ b. AllRise (step x y ys b)) (sym e) (put-rises y x ys rise (ranks.one_way y x e))
    | inr e ↦ subst (λ b. AllRise (step x y ys b)) (sym e) (e, rise)
  ]

  by_name-rises : (xs : List X) → AllRise (by_name name xs)
  by_name-rises [] = tt
  by_name-rises (x ∷ xs) = put-all_rise x (by_name name xs) (by_name-rises xs)

  no_third : (z x y : X) → lt y x ≡ true → ties lt z x ≡ true → ties lt z y ≡ true → ⊥
  no_third z x y less a b = true_false (sym less ∙ ranks.chain y z x (both_false (lt z y) (lt y z) b).1 (both_false (lt z x) (lt x z) a).0)

  put-stable : (z x : X) (ys : List X) → filter (ties lt z) (put_by_name name x ys) ≡ filter (ties lt z) (x ∷ ys)
  put-stable z x [] = refl
  put-stable z x (y ∷ ys) = elim (cases_Bool (lt y x)) [
    | inl e ↦ subst (λ b. filter (ties lt z) (step x y ys b) ≡ filter (ties lt z) (x ∷ y ∷ ys)) (sym e)
        (ap (λ (l : List X). cond (ties lt z y) (y ∷ l) l) (put-stable z x ys)
        ∙ one_kept x y (filter (ties lt z) ys) (ties lt z x) (ties lt z y) (no_third z x y e))
    | inr e ↦ subst (λ b. filter (ties lt z) (step x y ys b) ≡ filter (ties lt z) (x ∷ y ∷ ys)) (sym e) refl
  ]

  by_name-stable : (z : X) (xs : List X) → filter (ties lt z) (by_name name xs) ≡ filter (ties lt z) xs
  by_name-stable z [] = refl
  by_name-stable z (x ∷ xs) = put-stable z x (by_name name xs) ∙ ap (λ (l : List X). cond (ties lt z x) (x ∷ l) l) (by_name-stable z xs)

  -- where some member ties with u, u is not below what all members are not below
  not_below : (u x : X) (ys : List X) (w : X) (ws : List X) → Rises x ys → filter (ties lt u) ys ≡ w ∷ ws → lt u x ≡ false
  not_below u x [] w ws rise some = absurd (nil_cons w ws some)
  not_below u x (y ∷ ys) w ws rise some = elim (cases_Bool (ties lt u y)) [
    | inl e ↦ ranks.chain u y x (both_false (lt u y) (lt y u) e).0 rise.0
    | inr e ↦ ranks.chain u y x (not_below u y ys w ws rise.1 (subst (λ b. cond b (y ∷ filter (ties lt u) ys) (filter (ties lt u) ys) ≡ w ∷ ws) e some)) rise.0
  ]

  not_below_first : (u x : X) (xs : List X) (w : X) (ws : List X) → Rises x xs → filter (ties lt u) (x ∷ xs) ≡ w ∷ ws → lt u x ≡ false
  not_below_first u x xs w ws rise some = not_below u x (x ∷ xs) w ws (never x, rise) some

  itself : (x : X) (xs : List X) → filter (ties lt x) (x ∷ xs) ≡ x ∷ filter (ties lt x) xs
  itself x xs = ap (λ b. cond b (x ∷ filter (ties lt x) xs) (filter (ties lt x) xs)) (and_so (lt x x) (lt x x) (never x) (never x))

  same : (xs ys : List X) → AllRise xs → AllRise ys → ((z : X) → filter (ties lt z) xs ≡ filter (ties lt z) ys) → xs ≡ ys
  same [] [] a b kept = refl
  same [] (y ∷ ys) a b kept = absurd (nil_cons y (filter (ties lt y) ys) (kept y ∙ itself y ys))
  same (x ∷ xs) [] a b kept = absurd (nil_cons x (filter (ties lt x) xs) (sym (kept x) ∙ itself x xs))
  same (x ∷ xs) (y ∷ ys) a b kept =
      let there = sym (kept x) ∙ itself x xs in
      let here = kept y ∙ itself y ys in
      let tie : ties lt x y ≡ true = and_so (lt x y) (lt y x) (not_below_first x y ys x (filter (ties lt x) xs) b there) (not_below_first y x xs y (filter (ties lt y) ys) a here) in
      let first : x ≡ y = sym (head_same y x (filter (ties lt x) ys) (filter (ties lt x) xs) (sym (ap (λ b. cond b (y ∷ filter (ties lt x) ys) (filter (ties lt x) ys)) tie) ∙ there)) in
      cons_same x y xs ys first (same xs ys (rest x xs a) (rest y ys b) (λ z.
      same_kept x y (filter (ties lt z) xs) (filter (ties lt z) ys) (ties lt z x) (ties lt z y) first (ap (λ v. ties lt z v) first) (kept z)))
    where
      rest : (x : X) (xs : List X) → Rises x xs → AllRise xs
      rest x [] rise = tt
      rest x (y ∷ ys) rise = rise.1

  pub in_order : SortsByName X name
  in_order = record {
    sorted = λ xs. is_sorted (by_name name xs) (by_name-rises xs);
    stable = λ xs z. by_name-stable z xs;
    only = λ xs ys sorted stable. same ys (by_name name xs) (all_rise ys sorted) (by_name-rises xs) (λ z. stable z ∙ sym (by_name-stable z xs));
  }
