-- The table of a book's symbols, as names are made and go.
use Rattle.std.proofs.Common.{◌≡◌, ℕ, zero, suc, ◌+◌, ◌<◌, ◌≤◌, ◌==◌, Bool, true, false, cond, Some, List, [], ◌∷◌, ◌++◌, map, length, slice_get, zip, refl, ap, sym, ◌∙◌, subst, arith, inl, inr}
use Rattle.std.proofs.lemmas.Bool.Decides.{Decides-eqb}
use Rattle.std.proofs.lemmas.List.{map-append}
use Rattle.std.specs.Option.{option_map}
use Rattle.std.specs.FinMap as table
use Rattle.stat_defs.specs.Names.{tokens}
use Rattle.symbol_table.specs.Drawing.{DrawsAll, Same}
use Rattle.symbol_table.specs.Table.{Table, Holds, uses_at, times, counted, counted_all, uncounted_all, IsTable}
use Rattle.symbol_table.proofs.Counting.{token_of_got, uses_of_got}
use Rattle.symbol_table.proofs.DrawingLemmas.{counted_here, draws_after, holds_all, drawn_length}
use Rattle.symbol_table.proofs.Adding.{tick, times_cons, tick_same, still_used, used_case}
use Rattle.book_state.specs.State.{Row, is_gone, symbols_of}
use Rattle.book_state.proofs.Lists.{not_some, some_same, map_some, get_map}
use Rattle.book_state.proofs.Members.{Among, among_either}
use Rattle.stat_book.specs.Symbols.{AreUses}

pub times_append : (n : ℕ) (xs ys : List ℕ) → times n (xs ++ ys) ≡ times n xs + times n ys
times_append n [] ys = omega arith
times_append n (x ∷ xs) ys = let rest = times_append n xs ys in let a = times_cons n x (xs ++ ys) in let b = times_cons n x xs in omega (arith, rest, a, b)

abbrev pub numbers_of : List (List ℕ × ℕ) → List ℕ
numbers_of symbols = map (λ symbol. symbol.1) symbols

pub zip_numbers : (ts : List (List ℕ)) (ns : List ℕ) → length ns ≡ length ts → numbers_of (zip ts ns) ≡ ns
zip_numbers ts [] same = no_numbers ts where
  no_numbers : (ts : List (List ℕ)) → numbers_of (zip ts []) ≡ []
  no_numbers [] = refl
  no_numbers (t ∷ ts) = refl
zip_numbers [] (n ∷ ns) same = absurd (omega (arith, same))
zip_numbers (t ∷ ts) (n ∷ ns) same = ap (λ (l : List ℕ). n ∷ l) (zip_numbers ts ns (omega (arith, same)))

eq_of : (x n : ℕ) → (x == n) ≡ true → x ≡ n
eq_of x n e = (Decides-eqb x n).0 e

some_step : (n x : ℕ) (xs : List ℕ) (t : Bool) → (x == n) ≡ t → 0 < times n (x ∷ xs) → (0 < times n xs → (i : ℕ) × (slice_get xs i ≡ Some n)) → (i : ℕ) × (slice_get (x ∷ xs) i ≡ Some n)
some_step n x xs true e some later = (0, ap Some (eq_of x n e))
some_step n x xs false e some later =
    let none : ◌≡◌ {A = ℕ} (tick x n) 0 = ap (λ (b : Bool). cond b 1 0) e in
    let got = later (let a = times_cons n x xs in omega (arith, a, none, some)) in (suc got.0, got.1)

some_time : (n : ℕ) (xs : List ℕ) → 0 < times n xs → (i : ℕ) × (slice_get xs i ≡ Some n)
some_time n [] some = absurd (omega (arith, some))
some_time n (x ∷ xs) some = some_step n x xs (x == n) refl some (some_time n xs)

pub time_at : (n : ℕ) (xs : List ℕ) (i : ℕ) → slice_get xs i ≡ Some n → 0 < times n xs
time_at n [] i e = absurd (not_some n e)
time_at n (x ∷ xs) zero e = let a = times_cons n x xs in let one = tick_same x n (sym (some_same x n e)) in omega (arith, a, one)
time_at n (x ∷ xs) (suc i) e = let a = times_cons n x xs in let rest = time_at n xs i e in omega (arith, a, rest)

new_holds : (m : Table) (ts : List (List ℕ)) (ns : List ℕ) → DrawsAll (Holds m) ts ns → (i : ℕ) (t : List ℕ) (n : ℕ) → slice_get (zip ts ns) i ≡ Some (t, n) → Holds (counted_all m ts ns) t n
new_holds m [] [] d i t n e = absurd (not_some (t, n) e)
new_holds m [] (k ∷ ns) d i t n e = absurd d
new_holds m (s ∷ ts) [] d i t n e = absurd d
new_holds m (s ∷ ts) (k ∷ ns) d zero t n e =
    let same = some_same (s, k) (t, n) e in
    let h = holds_all (counted m s k) s k ts ns (draws_after m s k ts ns d.0 d.1) (uses_at m k + 1, counted_here m s k) in
    subst (λ (p : List ℕ × ℕ). Holds (counted_all (counted m s k) ts ns) p.0 p.1) same h
new_holds m (s ∷ ts) (k ∷ ns) d (suc i) t n e = new_holds (counted m s k) ts ns (draws_after m s k ts ns d.0 d.1) i t n e

pub less_holds : (m : Table) (ns : List ℕ) (t : List ℕ) (n : ℕ) → Holds m t n → 0 < uses_at (uncounted_all m ns) n → Holds (uncounted_all m ns) t n
less_holds m ns t n h some =
    let s = still_used m ns n some in
    subst (λ (w : List ℕ). Holds (uncounted_all m ns) w n) (s.1 ∙ token_of_got m n (t, h.0) h.1) (used_case (uncounted_all m ns) n (table.get (uncounted_all m ns) n) refl some)

module _ (uses : Table) (symbols : List (List ℕ × ℕ)) (are : AreUses uses symbols) where
  to_uses : (t : List ℕ) (n : ℕ) → Holds uses t n → Among symbols (t, n)
  to_uses t n h =
      let some = are.table.used n t h.0 h.1 in
      let count = uses_of_got uses n (t, h.0) h.1 in
      let at = some_time n (numbers_of symbols) (omega (arith, are.counts n, count, some)) in
      let s = map_some (λ (symbol : List ℕ × ℕ). symbol.1) (slice_get symbols at.0) n (sym (get_map (λ (symbol : List ℕ × ℕ). symbol.1) symbols at.0) ∙ at.1) in
      let here : slice_get symbols at.0 ≡ Some (s.0.0, n) = s.1 ∙ ap (λ (k : ℕ). Some (s.0.0, k)) (sym s.2) in
      let other = are.tokens at.0 s.0.0 n here in
      let token : s.0.0 ≡ t = ap (λ (p : List ℕ × ℕ). p.0) (some_same (s.0.0, other.0) (t, h.0) (sym other.1 ∙ h.1)) in
      (at.0, subst (λ (w : List ℕ). slice_get symbols at.0 ≡ Some (w, n)) token here)

  pub same_uses : Same (Holds uses) (λ t n. Among symbols (t, n))
  same_uses = record { to = to_uses; from = λ t n a. are.tokens a.0 t n a.1 }

  -- a name more
  module _ (ts : List (List ℕ)) (ns : List ℕ) (draws : DrawsAll (Holds uses) ts ns) (uses' : Table) (counted_are : uses' ≡ counted_all uses ts ns)
      (counts : (n : ℕ) → uses_at uses' n ≡ uses_at uses n + times n ns) (is : IsTable uses') where
    pub numbers_with : numbers_of (symbols ++ zip ts ns) ≡ numbers_of symbols ++ ns
    numbers_with = map-append (λ (symbol : List ℕ × ℕ). symbol.1) symbols (zip ts ns) ∙ ap (λ (l : List ℕ). numbers_of symbols ++ l) (zip_numbers ts ns (drawn_length (Holds uses) ts ns draws))

    pub made_uses : AreUses uses' (symbols ++ zip ts ns)
    made_uses = record {
      table = is;
      counts = λ n.
          let all = times_append n (numbers_of symbols) ns in
          let with_new = ap (times n) numbers_with in
          omega (arith, counts n, are.counts n, all, with_new);
      tokens = λ at t n here. subst (λ (u : Table). Holds u t n) (sym counted_are) (elim (among_either symbols (zip ts ns) (t, n) at here) [
        | inl old ↦ holds_all uses t n ts ns draws (are.tokens old.0 t n old.1)
        | inr new ↦ new_holds uses ts ns draws new.0 t n new.1
      ]);
    }

  -- a name less
  module _ (ns : List ℕ) (rest : List (List ℕ × ℕ)) (split : (n : ℕ) → times n (numbers_of symbols) ≡ times n (numbers_of rest) + times n ns)
      (less : (t : List ℕ) (n : ℕ) → Among rest (t, n) → Among symbols (t, n)) where
    pub may_drop : (n : ℕ) → times n ns ≤ uses_at uses n
    may_drop n = omega (arith, split n, are.counts n)

    pub dropped_uses : (uses' : Table) → uses' ≡ uncounted_all uses ns → ((n : ℕ) → uses_at uses' n + times n ns ≡ uses_at uses n) → IsTable uses' → AreUses uses' rest
    dropped_uses uses' are' counts is = record {
      table = is;
      counts = λ n. omega (arith, counts n, split n, are.counts n);
      tokens = λ at t n here.
          let old = less t n (at, here) in
          let there = time_at n (numbers_of rest) at (get_map (λ (symbol : List ℕ × ℕ). symbol.1) rest at ∙ ap (option_map (λ (symbol : List ℕ × ℕ). symbol.1)) here) in
          let some : 0 < uses_at uses' n = omega (arith, counts n, split n, are.counts n, there) in
          subst (λ (u : Table). Holds u t n) (sym are') (less_holds uses ns t n (are.tokens old.0 t n old.1) (subst (λ (u : Table). 0 < uses_at u n) are' some));
    }

pub row_symbols : (row : Row) → is_gone row.metric.life ≡ false → symbols_of row ≡ zip (tokens row.metric.name) row.metric.numbers
row_symbols row there = ap (λ (b : Bool). cond b [] (zip (tokens row.metric.name) row.metric.numbers)) there
