-- Which numbers may be drawn, as a test of the tokens in use that computes.
use Rattle.std.proofs.Common.{◌≡◌, ℕ, zero, suc, ◌<◌, ◌==◌, ◌&&◌, ◌||◌, cond, not, nat_lt, Bool, true, false, Some, List, [], ◌∷◌, slice_get, refl, ap, sym, ◌∙◌, subst, arith, inl, inr, ◌⊎◌}
use Rattle.std.specs.List.{list_any, list_all}
use Rattle.std.proofs.lemmas.Bool.Decides.{Decides-eqb, Decides-ltb, eqb_tells}
use Rattle.std.proofs.lemmas.Slice.Eq.{bytes_eq-Decides}
use Rattle.symbol_table.specs.Drawing.{Draws, DrawsAll, InUse, with_use, Same}
use Rattle.symbol_table.proofs.DrawingLemmas.{DrawsAll_same}
use Rattle.book_state.specs.State.{same_text}
use Rattle.book_state.proofs.Lists.{some_same, not_some, true_false, both}

-- the token is in use under this number
abbrev pub In : List (List ℕ × ℕ) → List ℕ → ℕ → Type 0
In used token n = (at : ℕ) × (slice_get used at ≡ Some (token, n))

abbrev is_token : List ℕ → List ℕ × ℕ → Bool
is_token token p = same_text p.0 token

abbrev is_number : ℕ → List ℕ × ℕ → Bool
is_number n p = p.1 == n

-- every number from 1 on that is below n is in use
abbrev below_used : List (List ℕ × ℕ) → ℕ → Bool
below_used used zero = true
below_used used (suc m) = (m == 0 || list_any (is_number m) used) && below_used used m

abbrev may_draw : List (List ℕ × ℕ) → List ℕ → ℕ → Bool
may_draw used token n = cond (list_any (is_token token) used)
    (list_all (λ p. not (is_token token p) || is_number n p) used)
    (nat_lt 0 n && (not (list_any (is_number n) used) && (list_any (λ p. nat_lt n p.1) used || below_used used n)))

abbrev pub may_draw_all : List (List ℕ × ℕ) → List (List ℕ) → List ℕ → Bool
may_draw_all used [] [] = true
may_draw_all used (t ∷ ts) (n ∷ ns) = may_draw used t n && may_draw_all ((t, n) ∷ used) ts ns
may_draw_all used [] (n ∷ ns) = false
may_draw_all used (t ∷ ts) [] = false

neither : (a b : Bool) → (a || b) ≡ false → (a ≡ false) × (b ≡ false)
neither true b e = absurd (true_false e)
neither false b e = (refl, e)

one_of : (a b : Bool) → (a || b) ≡ true → (a ≡ true) ⊎ (b ≡ true)
one_of true b e = inl refl
one_of false b e = inr e

implied : (a b : Bool) → a ≡ true → (not a || b) ≡ true → b ≡ true
implied true b a e = e
implied false b a e = absurd (true_false (sym a))

not_true : (a : Bool) → not a ≡ true → a ≡ false
not_true true e = absurd (true_false (sym e))
not_true false e = refl

any_false : {X : Type 0} (p : X → Bool) (xs : List X) (i : ℕ) (x : X) → list_any p xs ≡ false → slice_get xs i ≡ Some x → p x ≡ false
any_false p [] i x none at = absurd (not_some x at)
any_false p (y ∷ ys) zero x none at = subst (λ z. p z ≡ false) (some_same y x at) (neither (p y) (list_any p ys) none).0
any_false p (y ∷ ys) (suc i) x none at = any_false p ys i x (neither (p y) (list_any p ys) none).1 at

all_true : {X : Type 0} (p : X → Bool) (xs : List X) (i : ℕ) (x : X) → list_all p xs ≡ true → slice_get xs i ≡ Some x → p x ≡ true
all_true p [] i x all at = absurd (not_some x at)
all_true p (y ∷ ys) zero x all at = subst (λ z. p z ≡ true) (some_same y x at) (both (p y) (list_all p ys) all).0
all_true p (y ∷ ys) (suc i) x all at = all_true p ys i x (both (p y) (list_all p ys) all).1 at

any_true : {X : Type 0} (p : X → Bool) (xs : List X) → list_any p xs ≡ true → (i : ℕ) × (x : X) × (slice_get xs i ≡ Some x) × (p x ≡ true)
any_true p [] some = absurd (true_false (sym some))
any_true p (y ∷ ys) some = elim (one_of (p y) (list_any p ys) some) [
  | inl here ↦ (zero, y, refl, here)
  | inr later ↦ let rest = any_true p ys later in (suc rest.0, rest.1, rest.2, rest.3)
]

-- an entry with this token, or with this number
has_token : (used : List (List ℕ × ℕ)) (token : List ℕ) (i : ℕ) (x : List ℕ × ℕ) → slice_get used i ≡ Some x → is_token token x ≡ true → In used token x.1
has_token used token i x at is = (i, subst (λ (t : List ℕ). slice_get used i ≡ Some (t, x.1)) ((bytes_eq-Decides x.0 token).0 is) at)

has_number : (used : List (List ℕ × ℕ)) (n : ℕ) → list_any (is_number n) used ≡ true → InUse (In used) n
has_number used n some = let got = any_true (is_number n) used some in
    (got.1.0, (got.0, subst (λ (k : ℕ). slice_get used got.0 ≡ Some (got.1.0, k)) ((Decides-eqb got.1.1 n).0 got.3) got.2))

below_in_use : (used : List (List ℕ × ℕ)) (n k : ℕ) → below_used used n ≡ true → 0 < k → k < n → InUse (In used) k
below_in_use used zero k ok pos below = absurd (omega (arith, below))
below_in_use used (suc m) k ok pos below =
    let parts = both (m == 0 || list_any (is_number m) used) (below_used used m) ok in
    elim (eqb_tells k m) [
      | inl same ↦ subst (λ (j : ℕ). InUse (In used) j) (sym same.1) (elim (one_of (m == 0) (list_any (is_number m) used) parts.0) [
        | inl none ↦ let e = (Decides-eqb m 0).0 none in absurd (omega (arith, e, same.1, pos))
        | inr some ↦ has_number used m some
      ])
      | inr other ↦ below_in_use used m k parts.1 pos (omega (arith, below, other.1))
    ]

drawn_by_case : (used : List (List ℕ × ℕ)) (token : List ℕ) (n : ℕ) (b : Bool) → list_any (is_token token) used ≡ b
    → cond b (list_all (λ p. not (is_token token p) || is_number n p) used)
    (nat_lt 0 n && (not (list_any (is_number n) used) && (list_any (λ p. nat_lt n p.1) used || below_used used n))) ≡ true
    → Draws (In used) token n
drawn_by_case used token n true some ok =
    let kept : (k : ℕ) → In used token k → n ≡ k = λ k u.
    sym ((Decides-eqb k n).0 (implied (same_text token token) (k == n) ((bytes_eq-Decides token token).1 refl) (all_true (λ p. not (is_token token p) || is_number n p) used u.0 (token, k) ok u.1))) in
    let first = any_true (is_token token) used some in
    let held = has_token used token first.0 first.1 first.2 first.3 in record {
      kept = kept;
      fresh = λ none. absurd (none first.1.1 held);
      lowest = λ above k pos below. let low = above first.1.1 (token, held) in let e = kept first.1.1 held in absurd (omega (arith, low, e));
    }
drawn_by_case used token n false none ok =
    let parts = both (nat_lt 0 n) (not (list_any (is_number n) used) && (list_any (λ p. nat_lt n p.1) used || below_used used n)) ok in
    let more = both (not (list_any (is_number n) used)) (list_any (λ p. nat_lt n p.1) used || below_used used n) parts.1 in record {
      kept = λ k u. absurd (true_false (sym ((bytes_eq-Decides token token).1 refl) ∙ any_false (is_token token) used u.0 (token, k) none u.1));
      fresh = λ free. (
        (Decides-ltb 0 n).0 parts.0,
        λ u. absurd (true_false (sym ((Decides-eqb n n).1 refl) ∙ any_false (is_number n) used u.1.0 (u.0, n) (not_true (list_any (is_number n) used) more.0) u.1.1)),
      );
      lowest = λ above k pos below. elim (one_of (list_any (λ p. nat_lt n p.1) used) (below_used used n) more.1) [
        | inl some ↦
            let got = any_true (λ (p : List ℕ × ℕ). nat_lt n p.1) used some in
            let low = above got.1.1 (got.1.0, (got.0, got.2)) in
            absurd (omega (arith, low, (Decides-ltb n got.1.1).0 got.3))
        | inr all ↦ below_in_use used n k all pos below
      ];
    }

used_more : (used : List (List ℕ × ℕ)) (t : List ℕ) (n : ℕ) → Same (In ((t, n) ∷ used)) (with_use (In used) t n)
used_more used t n = record {
  to = λ s k u. here_or_later s k u.0 u.1;
  from = λ s k u. elim u [
    | inl before ↦ (suc before.0, before.1)
    | inr e ↦ (zero, ap (λ (x : List ℕ × ℕ). Some x) (pair_of t s n k (sym e.0) (sym e.1)))
  ];
} where
  pair_of : (t s : List ℕ) (n k : ℕ) → t ≡ s → n ≡ k → ◌≡◌ {A = List ℕ × ℕ} (t, n) (s, k)
  pair_of t s n k et en = cc

  here_or_later : (s : List ℕ) (k i : ℕ) → slice_get ((t, n) ∷ used) i ≡ Some (s, k) → with_use (In used) t n s k
  here_or_later s k zero at = let e = some_same (t, n) (s, k) at in inr (sym (ap (λ (x : List ℕ × ℕ). x.0) e), sym (ap (λ (x : List ℕ × ℕ). x.1) e))
  here_or_later s k (suc i) at = inl (i, at)

-- what the test admits may be drawn
pub drawn_all : (used : List (List ℕ × ℕ)) (ts : List (List ℕ)) (ns : List ℕ) → may_draw_all used ts ns ≡ true → DrawsAll (In used) ts ns
drawn_all used [] [] ok = tt
drawn_all used [] (n ∷ ns) ok = absurd (true_false (sym ok))
drawn_all used (t ∷ ts) [] ok = absurd (true_false (sym ok))
drawn_all used (t ∷ ts) (n ∷ ns) ok =
    let parts = both (may_draw used t n) (may_draw_all ((t, n) ∷ used) ts ns) ok in (
      drawn_by_case used t n (list_any (is_token t) used) refl parts.0,
      DrawsAll_same (In ((t, n) ∷ used)) (with_use (In used) t n) (used_more used t n) ts ns (drawn_all ((t, n) ∷ used) ts ns parts.1),
    )
