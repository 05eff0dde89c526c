-- Drawing where no number is free: the number is determined, and none is free after it.
use Rattle.std.proofs.Common.{◌≡◌, ℕ, zero, suc, ◌+◌, ◌<◌, ◌≤◌, Some, List, [], ◌∷◌, ◌++◌, slice_get, refl, ap, sym, ◌∙◌, subst, arith, inl, inr, ◌⊎◌, append_assoc, append-nil}
use Rattle.std.specs.List.{zip}
use Rattle.std.proofs.lemmas.Bool.Decides.{leb_tells}
use Rattle.symbol_table.specs.Drawing.{Draws, DrawsAll, with_use, Same}
use Rattle.book_state.proofs.Computed.{In}
use Rattle.book_state.proofs.Lists.{some_same, not_some, eq_or}
use Rattle.ledger.specs.OneReport.{AreDense}

le_or : (a b : ℕ) → (a ≤ b) ⊎ (b < a)
le_or a b = elim (leb_tells a b) [ inl h ↦ inl h.1 | inr h ↦ inr h.1 ]

module _ (uses : List ℕ → ℕ → Type 0) (dense : AreDense uses) where
  -- a token that is not in use gets the number above the highest
  next : (token : List ℕ) (n : ℕ) → Draws uses token n → ((k : ℕ) → uses token k → ⊥) → n ≡ dense.top + 1
  next token n d unused =
      let fresh = d.fresh unused in
      let above : dense.top < n = elim (le_or n dense.top) [ inl low ↦ absurd (fresh.1 (dense.all n fresh.0 low)) | inr high ↦ high ] in
      elim (le_or n (dense.top + 1)) [
        | inl low ↦ omega (arith, low, above)
        | inr high ↦
            let used = d.lowest (λ k u. let w = (dense.within k u).1 in omega (arith, w, above)) (dense.top + 1) (omega arith) high in
            let w = (dense.within (dense.top + 1) used).1 in absurd (omega (arith, w))
      ]

  -- a token gets one number only
  one_draw : (token : List ℕ) (m n : ℕ) → Draws uses token m → Draws uses token n → m ≡ n
  one_draw token m n a b = elim (eq_or m n) [
    | inl same ↦ same
    | inr other ↦
        let unused : (k : ℕ) → uses token k → ⊥ = λ k u. other (a.kept k u ∙ sym (b.kept k u)) in
        next token m a unused ∙ sym (next token n b unused)
  ]

  above_none : (token : List ℕ) (n : ℕ) → Draws uses token n → dense.top < n → (k : ℕ) → uses token k → ⊥
  above_none token n d high k u = let w = (dense.within k (token, u)).1 in let e = d.kept k u in absurd (omega (arith, w, e, high))

  positive : (token : List ℕ) (n : ℕ) → Draws uses token n → 0 < n
  positive token n d = elim (le_or n 0) [
    | inl none ↦ (d.fresh (λ k u. let w = (dense.within k (token, u)).0 in let e = d.kept k u in absurd (omega (arith, w, e, none)))).0
    | inr some ↦ some
  ]

  dense_more : (token : List ℕ) (n : ℕ) → Draws uses token n → AreDense (with_use uses token n)
  dense_more token n d = elim (le_or n dense.top) [
    | inl low ↦ record {
      top = dense.top;
      within = λ k u. elim u.1 [
        | inl before ↦ dense.within k (u.0, before)
        | inr here ↦ let p = positive token n d in let e = here.1 in (omega (arith, p, e), omega (arith, low, e))
      ];
      all = λ k pos below. let u = dense.all k pos below in (u.0, inl u.1);
    }
    | inr high ↦ let e = next token n d (above_none token n d high) in record {
      top = dense.top + 1;
      within = λ k u. elim u.1 [
        | inl before ↦ let w = dense.within k (u.0, before) in let a = w.0 in let b = w.1 in (a, omega (arith, b))
        | inr here ↦ let h = here.1 in (omega (arith, e, h), omega (arith, e, h))
      ];
      all = λ k pos below. elim (le_or k dense.top) [
        | inl low ↦ let u = dense.all k pos low in (u.0, inl u.1)
        | inr last ↦ (token, inr (refl, omega (arith, e, last, below)))
      ];
    }
  ]

-- the tokens of a name get one list of numbers only
pub one_drawing : (uses : List ℕ → ℕ → Type 0) → AreDense uses → (ts : List (List ℕ)) (ms ns : List ℕ) → DrawsAll uses ts ms → DrawsAll uses ts ns → ms ≡ ns
one_drawing uses dense [] [] [] a b = refl
one_drawing uses dense [] [] (n ∷ ns) a b = absurd b
one_drawing uses dense [] (m ∷ ms) ns a b = absurd a
one_drawing uses dense (t ∷ ts) [] ns a b = absurd a
one_drawing uses dense (t ∷ ts) (m ∷ ms) [] a b = absurd b
one_drawing uses dense (t ∷ ts) (m ∷ ms) (n ∷ ns) a b =
    let e : n ≡ m = one_draw uses dense t n m b.0 a.0 in
    let rest : DrawsAll (with_use uses t m) ts ns = subst (λ (k : ℕ). DrawsAll (with_use uses t k) ts ns) e b.1 in
    let es = one_drawing (with_use uses t m) (dense_more uses dense t m a.0) ts ms ns a.1 rest in
    ap (λ (k : ℕ). k ∷ ms) (sym e) ∙ ap (λ (l : List ℕ). n ∷ l) es

same_dense : (uses others : List ℕ → ℕ → Type 0) → Same uses others → AreDense uses → AreDense others
same_dense uses others same dense = record {
  top = dense.top;
  within = λ n u. dense.within n (u.0, same.from u.0 n u.1);
  all = λ n pos below. let u = dense.all n pos below in (u.0, same.to u.0 n u.1);
}

push_keeps : {X : Type 0} (xs : List X) (x y : X) (at : ℕ) → slice_get xs at ≡ Some y → slice_get (xs ++ x ∷ []) at ≡ Some y
push_keeps [] x y at e = absurd (not_some y e)
push_keeps (z ∷ xs) x y zero e = e
push_keeps (z ∷ xs) x y (suc at) e = push_keeps xs x y at e

push_last : {X : Type 0} (xs : List X) (x : X) → (at : ℕ) × (slice_get (xs ++ x ∷ []) at ≡ Some x)
push_last [] x = (zero, refl)
push_last (z ∷ xs) x = let r = push_last xs x in (suc r.0, r.1)

push_cases : {X : Type 0} (xs : List X) (x y : X) (at : ℕ) → slice_get (xs ++ x ∷ []) at ≡ Some y → ((i : ℕ) × (slice_get xs i ≡ Some y)) ⊎ (x ≡ y)
push_cases [] x y zero e = inr (some_same x y e)
push_cases [] x y (suc at) e = absurd (not_some y e)
push_cases (z ∷ xs) x y zero e = inl (zero, e)
push_cases (z ∷ xs) x y (suc at) e = elim (push_cases xs x y at e) [ inl r ↦ inl (suc r.0, r.1) | inr h ↦ inr h ]

pair_of : (t s : List ℕ) (n k : ℕ) → t ≡ s → n ≡ k → ◌≡◌ {A = List ℕ × ℕ} (t, n) (s, k)
pair_of t s n k et en = cc

used_push : (uses : List ℕ → ℕ → Type 0) (used : List (List ℕ × ℕ)) → Same uses (In used) → (t : List ℕ) (n : ℕ) → Same (with_use uses t n) (In (used ++ (t, n) ∷ []))
used_push uses used same t n = record {
  to = λ s k u. elim u [
    | inl before ↦ let b = same.to s k before in (b.0, push_keeps used (t, n) (s, k) b.0 b.1)
    | inr e ↦ let l = push_last used (t, n) in (l.0, l.1 ∙ ap (λ (x : List ℕ × ℕ). Some x) (pair_of t s n k (sym e.0) (sym e.1)))
  ];
  from = λ s k u. elim (push_cases used (t, n) (s, k) u.0 u.1) [
    | inl before ↦ inl (same.from s k before)
    | inr e ↦ inr (sym (ap (λ (x : List ℕ × ℕ). x.0) e), sym (ap (λ (x : List ℕ × ℕ). x.1) e))
  ];
}

-- the numbers in use with those of a new name
pub dense_all : (uses : List ℕ → ℕ → Type 0) (used : List (List ℕ × ℕ)) → Same uses (In used) → AreDense uses → (ts : List (List ℕ)) (ns : List ℕ) → DrawsAll uses ts ns → AreDense (In (used ++ zip ts ns))
dense_all uses used same dense [] ns d = subst (λ (l : List (List ℕ × ℕ)). AreDense (In l)) (sym (append-nil used)) (same_dense uses (In used) same dense)
dense_all uses used same dense (t ∷ ts) [] d = absurd d
dense_all uses used same dense (t ∷ ts) (n ∷ ns) d =
    subst (λ (l : List (List ℕ × ℕ)). AreDense (In l)) (append_assoc used ((t, n) ∷ []) (zip ts ns))
    (dense_all (with_use uses t n) (used ++ (t, n) ∷ []) (used_push uses used same t n) (dense_more uses dense t n d.0) ts ns d.1)
