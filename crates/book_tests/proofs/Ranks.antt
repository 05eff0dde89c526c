-- A seat may find a key of a higher rank than all that it found.
use Rattle.std.proofs.Common.{◌≡◌, ℕ, ◌+◌, ◌≤◌, ◌==◌, ◌&&◌, ◌||◌, nat_le, Bool, true, false, IsNone, List, [], ◌∷◌}
use Rattle.std.proofs.Common.{◌++◌, refl, ap, sym, ◌∙◌, subst, arith}
use Rattle.std.specs.List.{list_any}
use Rattle.std.proofs.lemmas.Bool.{leb-true, le-leb, lt-leb}
use Rattle.std.proofs.lemmas.List.Folds.{list_any-append}
use Rattle.stat_defs.specs.Books.{BookHistory}
use Rattle.stat_defs.specs.Keys.{held_under, same_key}
use Rattle.stat_defs.specs.declared.events.Key.{Key}
use Rattle.stat_defs.specs.declared.history.Call.{Call}
use Rattle.stat_defs.specs.declared.history.Call.TheVariants as call
use Rattle.stat_defs.specs.declared.history.Entry.{Entry}
use Rattle.stat_defs.specs.declared.history.Verdict.{Verdict}
use Rattle.stat_defs.proofs.KeyLemmas.{same_key-is}
use Rattle.book_state.specs.Step.{Working}
use Rattle.book_state.proofs.Lists.{true_false}
use Rattle.stat_book.specs.Calls.{state_of, Answers}
use Rattle.book_tests.specs.Free.{uses_key, has_used, rank, is_from, has_from}
use Rattle.book_tests.proofs.Freedom.{may_find}

parts : (a b : Bool) → (a || b) ≡ false → (a ≡ false) × (b ≡ false)
parts true b un = absurd (true_false un)
parts false b un = (refl, un)

neither : (a b : Bool) → a ≡ false → b ≡ false → (a || b) ≡ false
neither true b h k = absurd (true_false h)
neither false b h k = k

of_seat : (a b c : Bool) → (b ≡ false → c ≡ false) → (a && b) ≡ false → (a && c) ≡ false
of_seat true b c less un = less un
of_seat false b c less un = refl

none_less : (p q : Call → Bool) (seat : ℕ) → ((c : Call) → p c ≡ false → q c ≡ false) → (log : List Entry)
    → list_any (λ (entry : Entry). entry.seat == seat && p entry.call) log ≡ false
    → list_any (λ (entry : Entry). entry.seat == seat && q entry.call) log ≡ false
none_less p q seat less [] un = refl
none_less p q seat less (e ∷ log) un =
    let rest = list_any (λ (entry : Entry). entry.seat == seat && p entry.call) log in
    let both = parts (e.seat == seat && p e.call) rest un in
    neither (e.seat == seat && q e.call) (list_any (λ (entry : Entry). entry.seat == seat && q entry.call) log)
    (of_seat (e.seat == seat) (p e.call) (q e.call) (less e.call) both.0) (none_less p q seat less log both.1)

-- a call below a rank does not use a key of that rank
not_used : (key : Key) (n : ℕ) → n ≤ rank key → (c : Call) → is_from n c ≡ false → uses_key key c ≡ false
not_used key n above call.End un = un
not_used key n above (call.Find other) un = by (same_key other key) refl where
  by : (t : Bool) → same_key other key ≡ t → t ≡ false
  by true same =
      let is = sym (same_key-is other key same) in
      absurd (true_false (sym (subst (λ (k : Key). nat_le n (rank k) ≡ true) is (le-leb n (rank key) above)) ∙ un))
  by false same = refl
not_used key n above c un = refl

pub may_find_next : (book : BookHistory) (seat : ℕ) (n : ℕ) (key : Key) → 1 ≤ seat → seat ≤ book.workers
    → has_from seat n book.log ≡ false → n ≤ rank key
    → Working (state_of book) seat (λ row. IsNone (held_under key row.held))
may_find_next book seat n key some few un above =
    may_find book seat key some few (none_less (is_from n) (uses_key key) seat (not_used key n above) book.log un)

-- what is below a rank is below a higher one
still_below : (n m : ℕ) → n ≤ m → (c : Call) → is_from n c ≡ false → is_from m c ≡ false
still_below n m more call.End un = un
still_below n m more (call.Find other) un = by (nat_le m (rank other)) refl where
  by : (t : Bool) → nat_le m (rank other) ≡ t → t ≡ false
  by true e =
      let up = leb-true m (rank other) e in
      absurd (true_false (sym (le-leb n (rank other) (omega (arith, more, up))) ∙ un))
  by false e = refl
still_below n m more c un = refl

pub found_next : (old new : BookHistory) (n : ℕ) (key : Key) (v : Verdict) → Answers old 1 (call.Find key) v new
    → has_from 1 n old.log ≡ false → n ≤ rank key
    → has_from 1 (rank key + 1) new.log ≡ false
found_next old new n key v answers un above =
    let m = rank key + 1 in
    let e : Entry = record { seat = 1; call = call.Find key; reply = answers.0 } in
    ap (λ (book : BookHistory). has_from 1 m book.log) answers.2.logged
    ∙ (list_any-append (λ (entry : Entry). entry.seat == 1 && is_from m entry.call) old.log (e ∷ [])
    ∙ neither (has_from 1 m old.log) (has_from 1 m (e ∷ []))
    (none_less (is_from n) (is_from m) 1 (still_below n m (omega (arith, above))) old.log un)
    (neither (nat_le m (rank key)) false (lt-leb m (rank key) (omega arith)) refl))
