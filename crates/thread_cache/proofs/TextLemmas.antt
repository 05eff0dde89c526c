-- Texts that are equal where their ends are.
use Rattle.std.specs.Prelude.{◌≡◌, ◌⊎◌, ℕ, ◌+◌, ◌-◌, ◌*◌, ◌<◌, ◌≤◌, Bool, true, false, List, ◌++◌, length, take, drop, get_or, nat_eq}
use Rattle.std.proofs.Common.{◌∙◌, ap, sym, refl, subst, arith, inl, inr, Fits, w8}
use Rattle.std.specs.Cmp.Lexicographic.{pointwise, bytes_decides}
use Rattle.std.proofs.lemmas.Bool.{eqb-true, eq-eqb, cases_lt}
use Rattle.std.proofs.lemmas.List.{take-take, take-append-drop, take_all, length-drop, length-take-le, get_or-take, get_or-drop, get_or_past}

-- a test that is true just where the texts are equal compares them
compares : (a b : List ℕ) (test : Bool) → (test ≡ true → a ≡ b) → (a ≡ b → test ≡ true) → test ≡ pointwise nat_eq a b
compares a b true is _ = sym ((bytes_decides a b).1 (is refl))
compares a b false _ same = by (pointwise nat_eq a b) refl
  where
    by : (told : Bool) → told ≡ pointwise nat_eq a b → false ≡ told
    by false _ = refl
    by true is = same ((bytes_decides a b).0 (sym is))

module _ (n : ℕ) (a b : List ℕ) (alike : length a ≡ length b) (within : n ≤ length a) (most : length a ≤ 2 * n) where
  -- the first n bytes and the last n are all
  covered : take n a ≡ take n b → take n (drop (length a - n) a) ≡ take n (drop (length a - n) b) → a ≡ b
  covered first last =
      let before = length a - n in
      let few : before ≤ n = omega arith in
      let front : take before a ≡ take before b =
      sym (take-take before n a few) ∙ (ap (take before) first ∙ take-take before n b few) in
      let rest : (xs : List ℕ) → length xs ≡ length a → take n (drop before xs) ≡ drop before xs =
      λ xs long. take_all n (drop before xs) (omega (arith, length-drop before xs, long)) in
      let back : drop before a ≡ drop before b = sym (rest a refl) ∙ (last ∙ rest b (sym alike)) in
      sym (take-append-drop before a) ∙ ((λ i. front i ++ back i) ∙ take-append-drop before b)

  -- where the first n bytes are equal, numbers that tell the last n decide
  pub last_decide : (from : List ℕ → ℕ) (tell : ℕ → List ℕ) (x y : ℕ) → take n a ≡ take n b
      → x ≡ from (take n (drop (length a - n) a)) → y ≡ from (take n (drop (length a - n) b))
      → tell x ≡ take n (drop (length a - n) a) → tell y ≡ take n (drop (length a - n) b)
      → nat_eq x y ≡ pointwise nat_eq a b
  last_decide from tell x y first is_x is_y tells_x tells_y = compares a b (nat_eq x y)
      (λ same. covered first (sym tells_x ∙ (ap tell (eqb-true x y same) ∙ tells_y)))
      (λ same. eq-eqb x y (is_x ∙ (ap (λ zs. from (take n (drop (length a - n) zs))) same ∙ sym is_y)))

  -- where the first n bytes are equal, the others from the last n on decide
  pub ends_decide : (test : Bool) → pointwise nat_eq (take n a) (take n b) ≡ true
      → test ≡ pointwise nat_eq (take (length a - (length a - n)) (drop (length a - n) a))
      (take (length b - (length a - n)) (drop (length a - n) b)) → test ≡ pointwise nat_eq a b
  ends_decide test first last =
      let before = length a - n in
      let end : List ℕ → List ℕ = λ xs. take (length xs - before) (drop before xs) in
      let whole : (xs : List ℕ) → end xs ≡ drop before xs =
      λ xs. take_all (length xs - before) (drop before xs) (omega (arith, length-drop before xs)) in
      let decides = bytes_decides (end a) (end b) in
      compares a b test
      (λ same. covered ((bytes_decides (take n a) (take n b)).0 first)
      (ap (take n) (sym (whole a) ∙ (decides.0 (sym last ∙ same) ∙ whole b))))
      (λ same. last ∙ decides.1 (ap end same))

-- n bytes of a text are bytes
pub part_fits : (text : List ℕ) (at n : ℕ) → at + n ≤ length text → ((i : ℕ) → Fits w8 (get_or text i 0))
    → (i : ℕ) → get_or (take n (drop at text)) i 0 < 256
part_fits text at n room fits i = by (cases_lt i n)
  where
    long : length (take n (drop at text)) ≡ n
    long = length-take-le n (drop at text) (omega (arith, length-drop at text))

    by : (i < n) ⊎ (n ≤ i) → get_or (take n (drop at text)) i 0 < 256
    by (inl below) = subst (λ x. x < 256) (sym (get_or-take n (drop at text) i 0 below ∙ get_or-drop at text i 0)) (fits (at + i)).fits
    by (inr past) = subst (λ x. x < 256) (sym (get_or_past (take n (drop at text)) i 0 (omega (arith, long)))) (omega arith)
