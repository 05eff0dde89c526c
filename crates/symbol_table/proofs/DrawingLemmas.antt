-- Drawing over two tables that say the same, one token after another, and undoing it.
use Rattle.std.proofs.Common.{◌≡◌, ℕ, zero, suc, ◌+◌, ◌<◌, Bool, true, false, cond, Some, None, List, [], ◌∷◌, ◌++◌, length, map as list_map, refl, ap, sym, ◌∙◌, subst, arith, inl, inr}
use Rattle.std.specs.Cmp.{nat_cmp_total}
use Rattle.std.specs.Ordering.{nat_cmp, eq_by_cmp}
use Rattle.std.specs.FinMap as map
use Rattle.std.specs.FinMap.{get-insert}
use Rattle.symbol_table.specs.Drawing.{Draws, DrawsAll, with_use, Same}
use Rattle.symbol_table.specs.Table.{Table, Holds, uses_at, token_in, counted, counted_all, counted_again, IsTable, Interns}
use Rattle.symbol_table.proofs.Counting.{same_key, other_key, eq_or, pair_parts, true_false, uses_of_got, token_of_got}
use Rattle.std.specs.Str.{bytes_eq}
use Rattle.std.proofs.lemmas.Slice.Eq.{bytes_eq-Decides}

pub Draws_same : (u v : List ℕ → ℕ → Type 0) → Same u v → (t : List ℕ) (n : ℕ) → Draws u t n → Draws v t n
Draws_same u v same t n d = record {
  kept = λ k h. d.kept k (same.from t k h);
  fresh = λ none. let f = d.fresh (λ k h. none k (same.to t k h)) in (f.0, λ used. f.1 (used.0, same.from used.0 n used.1));
  lowest = λ above k pos below.
      let l = d.lowest (λ j used. above j (used.0, same.to used.0 j used.1)) k pos below in
      (l.0, same.to l.0 k l.1);
}

with_same : (u v : List ℕ → ℕ → Type 0) → Same u v → (t : List ℕ) (n : ℕ) → Same (with_use u t n) (with_use v t n)
with_same u v same t n = record {
  to = λ s k h. elim h [ inl x ↦ inl (same.to s k x) | inr e ↦ inr e ];
  from = λ s k h. elim h [ inl x ↦ inl (same.from s k x) | inr e ↦ inr e ];
}

-- what the table draws is what the book's metrics draw, where both have the same uses
pub DrawsAll_same : (u v : List ℕ → ℕ → Type 0) → Same u v → (ts : List (List ℕ)) (ns : List ℕ) → DrawsAll u ts ns → DrawsAll v ts ns
DrawsAll_same u v same [] [] d = tt
DrawsAll_same u v same (t ∷ ts) (n ∷ ns) d = (Draws_same u v same t n d.0, DrawsAll_same (with_use u t n) (with_use v t n) (with_same u v same t n) ts ns d.1)
DrawsAll_same u v same [] (n ∷ ns) d = d
DrawsAll_same u v same (t ∷ ts) [] d = d

-- the uses after a count
counted_get : (m : Table) (t : List ℕ) (n k : ℕ) → map.get (counted m t n) k ≡ cond (eq_by_cmp nat_cmp k n) (Some (t, uses_at m n + 1)) (map.get m k)
counted_get m t n k = get-insert nat_cmp_total m n (t, uses_at m n + 1) k

pub counted_here : (m : Table) (t : List ℕ) (n : ℕ) → map.get (counted m t n) n ≡ Some (t, uses_at m n + 1)
counted_here m t n = counted_get m t n n ∙ rw (same_key n) refl

pub counted_uses : (m : Table) (t : List ℕ) (n : ℕ) → uses_at (counted m t n) n ≡ uses_at m n + 1
counted_uses m t n = uses_of_got (counted m t n) n (t, uses_at m n + 1) (counted_here m t n)

counted_token : (m : Table) (t : List ℕ) (n : ℕ) → token_in (counted m t n) n ≡ t
counted_token m t n = token_of_got (counted m t n) n (t, uses_at m n + 1) (counted_here m t n)

own_case : (m : Table) (t s : List ℕ) (n u : ℕ) → Draws (Holds m) t n → map.get m n ≡ Some (s, u) → (b : Bool) → bytes_eq s t ≡ b → s ≡ t
own_case m t s n u d e true b = (bytes_eq-Decides s t).0 b
own_case m t s n u d e false b =
    let apart : s ≡ t → ⊥ = λ is. true_false (sym ((bytes_eq-Decides s t).1 is) ∙ b) in
    let none : (k : ℕ) → Holds m t k → ⊥ = λ k h.
    let is : n ≡ k = d.kept k h in
    let g : Some (s, u) ≡ Some (t, h.0) = sym e ∙ (ap (λ (j : ℕ). map.get m j) is ∙ h.1) in
    let p : ◌≡◌ {A = List ℕ × ℕ} (s, u) (t, h.0) = pair_parts (s, u) (t, h.0) g in
    apart (ap (λ (q : List ℕ × ℕ). q.0) p) in
    absurd ((d.fresh none).1 (s, (u, e)))

-- a number that was drawn is free, or the token's own
pub drawn_own : (m : Table) (t s : List ℕ) (n u : ℕ) → Draws (Holds m) t n → map.get m n ≡ Some (s, u) → s ≡ t
drawn_own m t s n u d e = own_case m t s n u d e (bytes_eq s t) refl

-- the uses after a count
pub counted_same : (m : Table) (t : List ℕ) (n : ℕ) → Draws (Holds m) t n → Same (with_use (Holds m) t n) (Holds (counted m t n))
counted_same m t n d = record {
  to = λ s k h. elim h [
    | inl x ↦ elim (eq_or k n) [
      | inl e ↦
          let own : s ≡ t = drawn_own m t s n x.0 d (ap (λ (j : ℕ). map.get m j) (sym e) ∙ x.1) in
          (uses_at m n + 1, rw own (counted_get m t n k ∙ rw (e, same_key n) refl))
      | inr ne ↦ (x.0, counted_get m t n k ∙ rw (other_key k n ne) x.1)
    ]
    | inr is ↦ (uses_at m n + 1, rw is.0 (counted_get m t n k ∙ rw (is.1, same_key n) refl))
  ];
  from = λ s k h. elim (eq_or k n) [
    | inl e ↦
        let g : Some (t, uses_at m n + 1) ≡ Some (s, h.0) = sym (counted_get m t n k ∙ rw (e, same_key n) refl) ∙ h.1 in
        let p : ◌≡◌ {A = List ℕ × ℕ} (t, uses_at m n + 1) (s, h.0) = pair_parts (t, uses_at m n + 1) (s, h.0) g in
        inr (sym (ap (λ (q : List ℕ × ℕ). q.0) p), e)
    | inr ne ↦ inl (h.0, sym (counted_get m t n k ∙ rw (other_key k n ne) refl) ∙ h.1)
  ];
}

pub counted_positive : (m : Table) (t : List ℕ) (n : ℕ) → 0 < uses_at (counted m t n) n
counted_positive m t n = omega (arith, counted_uses m t n)

same_back : (u v : List ℕ → ℕ → Type 0) → Same u v → Same v u
same_back u v s = record { to = s.from; from = s.to }

-- a drawn number holds its token after all counts
holds_on : (m : Table) (t : List ℕ) (n : ℕ) (s : List ℕ) (k : ℕ) → Draws (Holds m) s k → Holds m t n → Holds (counted m s k) t n
holds_on m t n s k d h =
    elim (eq_or n k) [
      | inl e ↦
          let own : t ≡ s = drawn_own m s t k h.0 d (ap (λ (j : ℕ). map.get m j) (sym e) ∙ h.1) in
          (uses_at m k + 1, rw own (counted_get m s k n ∙ rw (e, same_key k) refl))
      | inr ne ↦ (h.0, counted_get m s k n ∙ rw (other_key n k ne) h.1)
    ]

-- draws of the other tokens, after the first was counted
pub draws_after : (m : Table) (t : List ℕ) (n : ℕ) (ts : List (List ℕ)) (ns : List ℕ) → Draws (Holds m) t n → DrawsAll (with_use (Holds m) t n) ts ns → DrawsAll (Holds (counted m t n)) ts ns
draws_after m t n ts ns d rest = DrawsAll_same (with_use (Holds m) t n) (Holds (counted m t n)) (counted_same m t n d) ts ns rest

pub holds_all : (m : Table) (t : List ℕ) (n : ℕ) (ts : List (List ℕ)) (ns : List ℕ) → DrawsAll (Holds m) ts ns → Holds m t n → Holds (counted_all m ts ns) t n
holds_all m t n [] [] d h = h
holds_all m t n [] (k ∷ ns) d h = absurd d
holds_all m t n (s ∷ ts) [] d h = absurd d
holds_all m t n (s ∷ ts) (k ∷ ns) d h = holds_all (counted m s k) t n ts ns (draws_after m s k ts ns d.0 d.1) (holds_on m t n s k d.0 h)

-- the tokens of the drawn numbers are those that were interned
pub tokens_back : (m : Table) (ts : List (List ℕ)) (ns : List ℕ) → DrawsAll (Holds m) ts ns → list_map (token_in (counted_all m ts ns)) ns ≡ ts
tokens_back m [] [] d = refl
tokens_back m [] (k ∷ ns) d = absurd d
tokens_back m (s ∷ ts) [] d = absurd d
tokens_back m (s ∷ ts) (k ∷ ns) d =
    let after = draws_after m s k ts ns d.0 d.1 in
    let h = holds_all (counted m s k) s k ts ns after (uses_at m k + 1, counted_here m s k) in
    let head : token_in (counted_all (counted m s k) ts ns) k ≡ s = token_of_got (counted_all (counted m s k) ts ns) k (s, h.0) h.1 in
    let tail : list_map (token_in (counted_all (counted m s k) ts ns)) ns ≡ ts = tokens_back (counted m s k) ts ns after in
    cc

-- one token more, behind the others
pub drawn_more : (m : Table) (ts : List (List ℕ)) (ns : List ℕ) (t : List ℕ) (n : ℕ) → DrawsAll (Holds m) ts ns → Draws (Holds (counted_all m ts ns)) t n → DrawsAll (Holds m) (ts ++ t ∷ []) (ns ++ n ∷ [])
drawn_more m [] [] t n all d = (d, tt)
drawn_more m [] (k ∷ ns) t n all d = absurd all
drawn_more m (s ∷ ts) [] t n all d = absurd all
drawn_more m (s ∷ ts) (k ∷ ns) t n all d = (
  all.0,
  DrawsAll_same (Holds (counted m s k)) (with_use (Holds m) s k) (same_back (with_use (Holds m) s k) (Holds (counted m s k)) (counted_same m s k all.0)) (ts ++ t ∷ []) (ns ++ n ∷ [])
      (drawn_more (counted m s k) ts ns t n (draws_after m s k ts ns all.0 all.1) d),
)

counted_more : (m : Table) (ts : List (List ℕ)) (ns : List ℕ) (t : List ℕ) (n : ℕ) → DrawsAll (Holds m) ts ns → counted_all m (ts ++ t ∷ []) (ns ++ n ∷ []) ≡ counted (counted_all m ts ns) t n
counted_more m [] [] t n all = refl
counted_more m [] (k ∷ ns) t n all = absurd all
counted_more m (s ∷ ts) [] t n all = absurd all
counted_more m (s ∷ ts) (k ∷ ns) t n all = counted_more (counted m s k) ts ns t n (draws_after m s k ts ns all.0 all.1)

pub interns_more : (m m' last : Table) (ts : List (List ℕ)) (ns : List ℕ) (t : List ℕ) (n : ℕ) → Interns m ts m' ns → Draws (Holds m') t n → last ≡ counted m' t n → Interns m (ts ++ t ∷ []) last (ns ++ n ∷ [])
interns_more m m' last ts ns t n i d is = record {
  drawn = drawn_more m ts ns t n i.drawn (subst (λ (x : Table). Draws (Holds x) t n) i.counted_are d);
  counted_are = is ∙ (ap (λ (x : Table). counted x t n) i.counted_are ∙ sym (counted_more m ts ns t n i.drawn));
}

pub drawn_length : (uses : List ℕ → ℕ → Type 0) (ts : List (List ℕ)) (ns : List ℕ) → DrawsAll uses ts ns → length ns ≡ length ts
drawn_length uses [] [] d = refl
drawn_length uses [] (k ∷ ns) d = absurd d
drawn_length uses (s ∷ ts) [] d = absurd d
drawn_length uses (s ∷ ts) (k ∷ ns) d = let rest = drawn_length (with_use uses s k) ts ns d.1 in omega arith

-- a further use of a token in use is a count of it
pub again_counted : (m : Table) (t : List ℕ) (n : ℕ) → Holds m t n → counted_again m n ≡ counted m t n
again_counted m t n h = ap (λ (w : List ℕ). map.insert m n (w, uses_at m n + 1)) (token_of_got m n (t, h.0) h.1)

not_at_zero : (m : Table) (v : List ℕ × ℕ) → map.get m 0 ≡ None → map.get m 0 ≡ Some v → ⊥
not_at_zero m v e f = let h : None ≡ Some v = sym e ∙ f in absurd cc

pub holds_from_one : (m : Table) → IsTable m → (t : List ℕ) (n : ℕ) → Holds m t n → 0 < n
holds_from_one m is t zero h = absurd (not_at_zero m (t, h.0) is.from_one h.1)
holds_from_one m is t (suc n) h = omega arith
