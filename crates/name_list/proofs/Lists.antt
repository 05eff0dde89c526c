-- Lists of metrics without some, and what changes make of them.
use Rattle.std.proofs.Common.{◌≡◌, ◌≢◌, ltb, ltb-true, ltb-false, ℕ, zero, suc, ◌<◌, ◌≤◌, eqb, ne_eqb, eq-eqb, Bool, true, false, not, cond, ◌||◌, is_ok, Result, Ok, Err, List, [], ◌∷◌, ◌++◌, map, filter, length, get_or, take, ◌+◌, sym, refl, ap, ◌∙◌, subst, arith, append-nil, append_assoc, All}
use Rattle.std.specs.List.{list_any, flat_map}
use Rattle.std.specs.List.Sorted.{IsBinarySearchResult, IsNonDecreasing, IsPermutation}
use Rattle.std.specs.Ordering.{nat_cmp}
use native.Mathlib.Numerals.{unary_clauses}
use Rattle.std.proofs.lemmas.List.{map-append}
use Rattle.std.proofs.lemmas.List.Elements.{All-nil, All-cons, All-head, All-tail, All-append, All-filter, filter-append}
use Rattle.std.proofs.lemmas.List.Folds.{list_any-append}
use Rattle.std.proofs.lemmas.List.Sorted.{searched, list_any-IsPermutation}
use Rattle.stat_defs.specs.declared.ids.Kind.{Kind}
use Rattle.stat_defs.specs.declared.ids.MetricId.{MetricId}
use Rattle.stat_defs.specs.declared.history.NameOp.{NameOp}
use Rattle.stat_defs.specs.declared.history.NameOp.TheVariants.{Made, Gone}
use Rattle.stat_defs.specs.Keys.{same_kind}
use Rattle.stat_defs.specs.Changes.{Name, changed_by, names_from, id_of}
use Rattle.name_list.specs.declared.list.Batch.{Batch}
use Rattle.name_list.specs.Ids.{ids_of, changed_ids, ids_from, without}
use Rattle.name_list.specs.Laws.{IdsAreBelow}

-- a number that stands in a list, and one that does not
any-at : (x : ℕ) (xs : List ℕ) (i : ℕ) → i < length xs → get_or xs i 0 ≡ x → list_any (λ g. eqb x g) xs ≡ true
any-at x [] i within is = absurd (omega (arith, within))
any-at x (g ∷ xs) zero within is = ap (λ b. b || list_any (λ g. eqb x g) xs) (eq-eqb x g (sym is))
any-at x (g ∷ xs) (suc i) within is = ap (λ b. eqb x g || b) (any-at x xs i (omega (arith, within)) is) ∙ or-true (eqb x g) where
  or-true : (b : Bool) → (b || true) ≡ true
  or-true true = refl
  or-true false = refl

any-none : (x : ℕ) (xs : List ℕ) → ((k : ℕ) → k < length xs → x ≢ get_or xs k 0) → list_any (λ g. eqb x g) xs ≡ false
any-none x [] ne = refl
any-none x (g ∷ xs) ne = ap (λ b. b || list_any (λ g. eqb x g) xs) (ne_eqb x g (ne 0 (omega arith))) ∙ any-none x xs (λ k lt. ne (suc k) (omega (arith, lt)))

pub above-none : (x above : ℕ) (xs : List ℕ) → above ≤ x → All (λ g. g < above) xs → list_any (λ g. eqb x g) xs ≡ false
above-none x above xs le all = any-none x xs (λ k lt e. let b : get_or xs k 0 < above = all k 0 lt in omega (arith, le, b, e))

pub found-is : (xs : List ℕ) (x : ℕ) (r : Result ℕ ℕ) → IsNonDecreasing xs → IsBinarySearchResult (λ y. nat_cmp y x) xs r → is_ok r ≡ list_any (λ g. eqb x g) xs
found-is xs x (Ok i) up h = let s = searched xs x (Ok i) h (λ a b le lt. up a b 0 le lt) in sym (any-at x xs i s.0 s.1)
found-is xs x (Err i) up h = let s = searched xs x (Err i) h (λ a b le lt. up a b 0 le lt) in
    sym (any-none x xs (λ k lt e. apart k lt e (s.1 k) (s.2 k))) where
      apart : (k : ℕ) → k < length xs → x ≡ get_or xs k 0 → (k < i → get_or xs k 0 < x) → (i ≤ k → k < length xs → x < get_or xs k 0) → ⊥
      apart k lt e low high = by (ltb k i) refl where
        by : (b : Bool) → ltb k i ≡ b → ⊥
        by true is = let b = low (ltb-true k i is) in omega (arith, b, e)
        by false is = let b = high (ltb-false k i is) lt in omega (arith, b, e)

-- what is left of a list
pub without-none : (ids : List MetricId) → without [] ids ≡ ids
without-none [] = refl
without-none (id ∷ ids) = ap (λ l. id ∷ l) (without-none ids)

pub without-push : (gone : List ℕ) (g : ℕ) (ids : List MetricId) → without (gone ++ g ∷ []) ids ≡ filter (λ x. not (eqb x.0 g)) (without gone ids)
without-push gone g [] = refl
without-push gone g (id ∷ ids) =
    ap (λ b. cond (not b) (id ∷ without (gone ++ g ∷ []) ids) (without (gone ++ g ∷ []) ids)) (list_any-append (λ k. eqb id.0 k) gone (g ∷ []))
    ∙ (ap (λ l. cond (not (list_any (λ k. eqb id.0 k) gone || (eqb id.0 g || false))) (id ∷ l) l) (without-push gone g ids)
    ∙ both (list_any (λ k. eqb id.0 k) gone) (eqb id.0 g) refl) where
      rest : List MetricId
      rest = without gone ids

      both : (a b : Bool) → eqb id.0 g ≡ b → cond (not (a || (b || false))) (id ∷ filter (λ x. not (eqb x.0 g)) rest) (filter (λ x. not (eqb x.0 g)) rest) ≡ filter (λ x. not (eqb x.0 g)) (cond (not a) (id ∷ rest) rest)
      both true b is = refl
      both false true is = sym (ap (λ b. cond (not b) (id ∷ filter (λ x. not (eqb x.0 g)) rest) (filter (λ x. not (eqb x.0 g)) rest)) is)
      both false false is = sym (ap (λ b. cond (not b) (id ∷ filter (λ x. not (eqb x.0 g)) rest) (filter (λ x. not (eqb x.0 g)) rest)) is)

pub without-other : (gone : List ℕ) (id : MetricId) (ids : List MetricId) → list_any (λ g. eqb id.0 g) gone ≡ false → without gone (ids ++ id ∷ []) ≡ without gone ids ++ id ∷ []
without-other gone id ids free = filter-append (λ x. not (list_any (λ g. eqb x.0 g) gone)) ids (id ∷ []) ∙ ap (λ b. without gone ids ++ cond (not b) (id ∷ []) []) free

-- changes, one list behind another
pub ids-both : (kind : Kind) (xs ys : List NameOp) (ids : List MetricId) → ids_from kind (xs ++ ys) ids ≡ ids_from kind ys (ids_from kind xs ids)
ids-both kind [] ys ids = refl
ids-both kind (x ∷ xs) ys ids = ids-both kind xs ys _

pub ids-push : (kind : Kind) (cs : List NameOp) (ids : List MetricId) (i : ℕ) (d : NameOp) → i < length cs → ids_from kind (take (i + 1) cs) ids ≡ changed_ids kind (get_or cs i d) (ids_from kind (take i cs) ids)
ids-push kind [] ids i d within = absurd (omega (arith, within))
ids-push kind (c ∷ cs) ids zero d within = refl
ids-push kind (c ∷ cs) ids (suc i) d within = simp unary_clauses (simp unary_clauses at (ids-push kind cs (changed_ids kind c ids) i d (omega (arith, within))))

pub names-both : (xs ys : List NameOp) (names : List Name) → names_from (xs ++ ys) names ≡ names_from ys (names_from xs names)
names-both [] ys names = refl
names-both (x ∷ xs) ys names = names-both xs ys _

-- the metrics of a kind, of names that a change makes
taken-ids : (kind : Kind) (g : ℕ) (names : List Name) → ids_of kind (filter (λ name. not (eqb name.id g)) names) ≡ filter (λ x. not (eqb x.0 g)) (ids_of kind names)
taken-ids kind g [] = refl
taken-ids kind g (n ∷ names) = both (eqb n.id g) (same_kind n.kind kind) refl refl (taken-ids kind g names) where
  id : MetricId
  id = record { 0 = n.id }

  both : (a b : Bool) → eqb n.id g ≡ a → same_kind n.kind kind ≡ b → ids_of kind (filter (λ name. not (eqb name.id g)) names) ≡ filter (λ x. not (eqb x.0 g)) (ids_of kind names) → ids_of kind (cond (not (eqb n.id g)) (n ∷ filter (λ name. not (eqb name.id g)) names) (filter (λ name. not (eqb name.id g)) names))
      ≡ filter (λ x. not (eqb x.0 g)) (map (λ name. record { 0 = name.id }) (cond (same_kind n.kind kind) (n ∷ filter (λ name. same_kind name.kind kind) names) (filter (λ name. same_kind name.kind kind) names)))
  both true true a b rest = rw (b, a) rest
  both true false a b rest = rw (b, a) rest
  both false true a b rest = rw (a, b, a) (ap (λ l. id ∷ l) rest)
  both false false a b rest = rw (a, b) rest

changed-is : (kind : Kind) (c : NameOp) (names : List Name) → ids_of kind (changed_by c names) ≡ changed_ids kind c (ids_of kind names)
changed-is kind (Gone at id) names = taken-ids kind id.0 names
changed-is kind (Made at id made) names =
    ap (λ l. map (λ (name : Name). record { 0 = name.id }) l) (filter-append (λ name. same_kind name.kind kind) names (one ∷ []))
    ∙ (map-append (λ (name : Name). record { 0 = name.id }) (filter (λ name. same_kind name.kind kind) names) (filter (λ name. same_kind name.kind kind) (one ∷ []))
    ∙ by (same_kind made kind)) where
      one : Name
      one = record { id = id.0; kind = made }

      ids : List MetricId
      ids = ids_of kind names

      by : (b : Bool) → ids ++ map (λ name. record { 0 = name.id }) (cond b (one ∷ []) []) ≡ cond b (ids ++ id ∷ []) ids
      by true = refl
      by false = append-nil ids

pub ids-are : (kind : Kind) (cs : List NameOp) (names : List Name) → ids_of kind (names_from cs names) ≡ ids_from kind cs (ids_of kind names)
ids-are kind [] names = refl
ids-are kind (c ∷ cs) names = ids-are kind cs (changed_by c names) ∙ ap (ids_from kind cs) (changed-is kind c names)

-- a list that is brought up
pub brought : (kind : Kind) (known more : List NameOp) (old new : List MetricId) → old ≡ ids_of kind (names_from known []) → new ≡ ids_from kind more old → new ≡ ids_of kind (names_from (known ++ more) [])
brought kind known more old new was is = is ∙ (ap (ids_from kind more) was ∙ (sym (ids-are kind more (names_from known [])) ∙ ap (ids_of kind) (sym (names-both known more []))))

pub without-permutation : (ids : List MetricId) (xs ys : List ℕ) → IsPermutation xs ys → without xs ids ≡ without ys ids
without-permutation ids xs ys p = λ i. filter (λ id. not (list_any-IsPermutation (λ g. eqb id.0 g) xs ys p i)) ids

pub batches-push : (batches : List Batch) (changes : List NameOp) → flat_map (λ batch. batch.changes) (batches ++ record { changes = changes } ∷ []) ≡ flat_map (λ batch. batch.changes) batches ++ changes
batches-push [] changes = append-nil changes
batches-push (b ∷ bs) changes = ap (λ l. b.changes ++ l) (batches-push bs changes) ∙ sym (append_assoc b.changes (flat_map (λ batch. batch.changes) bs) changes)

-- what is true of the numbers of changes
ids-hold : (P : ℕ → Type 0) (kind : Kind) (cs : List NameOp) (ids : List MetricId) → All (λ c. P (id_of c)) cs → All (λ id. P id.0) ids → All (λ id. P id.0) (ids_from kind cs ids)
ids-hold P kind [] ids all is = is
ids-hold P kind (Gone at id ∷ cs) ids all is = ids-hold P kind cs (filter (λ x. not (eqb x.0 id.0)) ids) (All-tail (λ c. P (id_of c)) (Gone at id) cs all)
    (All-filter (λ x. not (eqb x.0 id.0)) (λ x. P x.0) ids is)
ids-hold P kind (Made at id made ∷ cs) ids all is = ids-hold P kind cs (cond (same_kind made kind) (ids ++ id ∷ []) ids) (All-tail (λ c. P (id_of c)) (Made at id made) cs all)
    (by (same_kind made kind) (All-head (λ c. P (id_of c)) (Made at id made) cs all)) where
      by : (b : Bool) → P id.0 → All (λ x. P x.0) (cond b (ids ++ id ∷ []) ids)
      by true p = All-append (λ x. P x.0) ids (id ∷ []) is (All-cons (λ x. P x.0) id [] p (All-nil _))
      by false p = is

pub ids-below : IdsAreBelow
ids-below n kind changes all = subst (All (λ id. id.0 < n)) (sym (ids-are kind changes [])) (ids-hold (λ k. k < n) kind changes [] all (All-nil _))
