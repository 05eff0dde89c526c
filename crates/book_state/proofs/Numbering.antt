-- What numbers that were drawn for the tokens of a name keep apart.
use Rattle.std.proofs.Common.{◌≡◌, ℕ, zero, suc, Bool, true, false, Some, List, [], ◌∷◌, slice_get, zip, refl, ap, sym, ◌∙◌, subst, inl, inr, ◌⊎◌, ◌↔◌}
use Rattle.std.proofs.lemmas.Slice.Eq.{bytes_eq-Decides}
use Rattle.symbol_table.specs.Drawing.{Draws, DrawsAll, InUse, with_use}
use Rattle.book_state.specs.State.{same_text}
use Rattle.book_state.specs.RunState.{Apart}
use Rattle.book_state.proofs.Lists.{some_same, not_some, true_false}
use Rattle.book_state.proofs.Members.{Among}

same_or : (t u : List ℕ) → (t ≡ u) ⊎ (t ≡ u → ⊥)
same_or t u = by_case (same_text t u) refl where
  by_case : (b : Bool) → same_text t u ≡ b → (t ≡ u) ⊎ (t ≡ u → ⊥)
  by_case true e = inl ((bytes_eq-Decides t u).0 e)
  by_case false e = inr (λ is. true_false (sym ((bytes_eq-Decides t u).1 is) ∙ e))

module _ (uses : List ℕ → ℕ → Type 0) (apart : Apart uses) (t : List ℕ) (n : ℕ) (d : Draws uses t n) where
  -- a token that is in use under the number that was drawn is the one that it was drawn for
  own : (u : List ℕ) → uses u n → t ≡ u
  own u used = elim (same_or t u) [
    | inl is ↦ is
    | inr other ↦
        let none : (k : ℕ) → uses t k → ⊥ = λ k h. other ((apart t u n n (subst (λ (j : ℕ). uses t j) (sym (d.kept k h)) h) used).1 refl) in
        absurd ((d.fresh none).1 (u, used))
  ]

  beside : (u : List ℕ) (m : ℕ) → uses u m → (u ≡ t) ↔ (m ≡ n)
  beside u m used = (
    λ is. sym (d.kept m (subst (λ (w : List ℕ). uses w m) is used)),
    λ is. sym (own u (subst (λ (k : ℕ). uses u k) is used)),
  )

  pub apart_with : Apart (with_use uses t n)
  apart_with u w m k (inl a) (inl b) = apart u w m k a b
  apart_with u w m k (inl a) (inr b) = let e = beside u m a in (λ is. e.0 (is ∙ b.0) ∙ sym b.1, λ is. e.1 (is ∙ b.1) ∙ sym b.0)
  apart_with u w m k (inr a) (inl b) = let e = beside w k b in (λ is. a.1 ∙ sym (e.0 (sym is ∙ a.0)), λ is. a.0 ∙ sym (e.1 (sym is ∙ a.1)))
  apart_with u w m k (inr a) (inr b) = (λ is. a.1 ∙ sym b.1, λ is. a.0 ∙ sym b.0)

-- the uses before, and those that were drawn
abbrev pub Drawn : (List ℕ → ℕ → Type 0) → List (List ℕ) → List ℕ → List ℕ → ℕ → Type 0
Drawn uses ts ns t n = uses t n ⊎ Among (zip ts ns) (t, n)

drawn_step : (uses : List ℕ → ℕ → Type 0) (t : List ℕ) (n : ℕ) (ts : List (List ℕ)) (ns : List ℕ) (u : List ℕ) (m at : ℕ)
    → slice_get ((t, n) ∷ zip ts ns) at ≡ Some (u, m) → Drawn (with_use uses t n) ts ns u m
drawn_step uses t n ts ns u m zero e = let is = some_same (t, n) (u, m) e in inl (inr (sym (ap (λ (p : List ℕ × ℕ). p.0) is), sym (ap (λ (p : List ℕ × ℕ). p.1) is)))
drawn_step uses t n ts ns u m (suc at) e = inr (at, e)

drawn_more : (uses : List ℕ → ℕ → Type 0) (t : List ℕ) (n : ℕ) (ts : List (List ℕ)) (ns : List ℕ) (u : List ℕ) (m : ℕ)
    → Drawn uses (t ∷ ts) (n ∷ ns) u m → Drawn (with_use uses t n) ts ns u m
drawn_more uses t n ts ns u m (inl a) = inl (inl a)
drawn_more uses t n ts ns u m (inr a) = drawn_step uses t n ts ns u m a.0 a.1

pub apart_less : (uses more : List ℕ → ℕ → Type 0) → ((t : List ℕ) (n : ℕ) → uses t n → more t n) → Apart more → Apart uses
apart_less uses more less apart t u m n a b = apart t u m n (less t m a) (less u n b)

none_drawn : (uses : List ℕ → ℕ → Type 0) (t : List ℕ) (n : ℕ) → Drawn uses [] [] t n → uses t n
none_drawn uses t n (inl a) = a
none_drawn uses t n (inr a) = absurd (not_some (t, n) a.1)

pub apart_drawn : (uses : List ℕ → ℕ → Type 0) → Apart uses → (ts : List (List ℕ)) (ns : List ℕ) → DrawsAll uses ts ns → Apart (Drawn uses ts ns)
apart_drawn uses apart [] [] d = apart_less (Drawn uses [] []) uses (none_drawn uses) apart
apart_drawn uses apart [] (n ∷ ns) d = absurd d
apart_drawn uses apart (t ∷ ts) [] d = absurd d
apart_drawn uses apart (t ∷ ts) (n ∷ ns) d =
    apart_less (Drawn uses (t ∷ ts) (n ∷ ns)) (Drawn (with_use uses t n) ts ns) (drawn_more uses t n ts ns)
    (apart_drawn (with_use uses t n) (apart_with uses apart t n d.0) ts ns d.1)

-- A number drawn for a token that was not in use was in use by no token. The uses after some draws: each token's number is
-- still such a one.
pub record Unused (first uses : List ℕ → ℕ → Type 0) : Type 0 where
  pub more : (t : List ℕ) (n : ℕ) → first t n → uses t n
  pub fresh : (t : List ℕ) (n : ℕ) → uses t n → ((k : ℕ) → first t k → ⊥) → InUse first n → ⊥

module _ (first uses : List ℕ → ℕ → Type 0) (unused : Unused first uses) (t : List ℕ) (n : ℕ) (d : Draws uses t n) where
  not_used : ((k : ℕ) → first t k → ⊥) → InUse first n → ⊥
  not_used none used =
      let new : (k : ℕ) → uses t k → ⊥ = λ k h. unused.fresh t n (subst (λ (j : ℕ). uses t j) (sym (d.kept k h)) h) none used in
      (d.fresh new).1 (used.0, unused.more used.0 n used.1)

  with_unused : Unused first (with_use uses t n)
  with_unused = record {
    more = λ u k h. inl (unused.more u k h);
    fresh = λ u k h none used. elim h [
      | inl before ↦ unused.fresh u k before none used
      | inr is ↦ not_used (subst (λ (w : List ℕ). (j : ℕ) → first w j → ⊥) is.0 none) (subst (λ (j : ℕ). InUse first j) is.1 used)
    ];
  }

unused_at : (first uses : List ℕ → ℕ → Type 0) → Unused first uses → (ts : List (List ℕ)) (ns : List ℕ) → DrawsAll uses ts ns
    → (at : ℕ) (t : List ℕ) (n : ℕ) → slice_get (zip ts ns) at ≡ Some (t, n) → ((k : ℕ) → first t k → ⊥) → InUse first n → ⊥
unused_at first uses unused [] ns d at t n e = absurd (not_some (t, n) e)
unused_at first uses unused (u ∷ ts) [] d at t n e = absurd d
unused_at first uses unused (u ∷ ts) (m ∷ ns) d zero t n e =
    let is = some_same (u, m) (t, n) e in
    subst (λ (p : List ℕ × ℕ). ((k : ℕ) → first p.0 k → ⊥) → InUse first p.1 → ⊥) is (not_used first uses unused u m d.0)
unused_at first uses unused (u ∷ ts) (m ∷ ns) d (suc at) t n e = unused_at first (with_use uses u m) (with_unused first uses unused u m d.0) ts ns d.1 at t n e

pub draws_unused : (uses : List ℕ → ℕ → Type 0) (ts : List (List ℕ)) (ns : List ℕ) → DrawsAll uses ts ns
    → (at : ℕ) (t : List ℕ) (n : ℕ) → slice_get (zip ts ns) at ≡ Some (t, n) → ((k : ℕ) → uses t k → ⊥) → InUse uses n → ⊥
draws_unused uses ts ns d = unused_at uses uses (record { more = λ t n h. h; fresh = λ t n h none used. none n h }) ts ns d
