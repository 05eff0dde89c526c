-- How the uses of a number change, and that names in use keep their texts.
use Rattle.std.proofs.Common.{◌≡◌, ◌≢◌, ℕ, suc, ◌+◌, ◌-◌, ◌<◌, ◌≤◌, ◌==◌, Bool, true, false, cond, Option, Some, None, List, [], ◌∷◌, length, map as list_map, All, get_or, refl, ap, sym, ◌∙◌, subst, arith, inl, inr, eq-eqb}
use Rattle.std.proofs.lemmas.Bool.Decides.{nat_tests}
use Rattle.std.proofs.lemmas.List.Sums.{sum_by-cons}
use Rattle.std.proofs.lemmas.List.Elements.{All-cons}
use Rattle.std.specs.List.{join_with_byte}
use Rattle.std.specs.Cmp.{nat_cmp_total}
use Rattle.std.specs.FinMap as map
use Rattle.std.specs.FinMap.{get-insert, get-remove, same_map, nat_cmp-IsAntisymmetric}
use Rattle.symbol_table.specs.Drawing.{DrawsAll}
use Rattle.symbol_table.specs.Table.{Table, Holds, uses_at, times, InUseAll, token_in, text_in, counted, counted_all, counted_again, counted_again_all, uncounted, uncounted_all, IsTable, Interns}
use Rattle.symbol_table.proofs.Counting.{same_key, other_key, eq_or, token_of_got}
use Rattle.symbol_table.proofs.DrawingLemmas.{holds_all, drawn_length}

abbrev uses_in : Option (List ℕ × ℕ) → ℕ
uses_in o = elim o as (λ x. ℕ) [ None ↦ 0 | Some entry ↦ entry.1 ]

abbrev token_of_entry : Option (List ℕ × ℕ) → List ℕ
token_of_entry o = elim o as (λ x. List ℕ) [ None ↦ [] | Some entry ↦ entry.0 ]

-- 1 at the number itself, and else 0
abbrev pub tick : ℕ → ℕ → ℕ
tick n k = cond (n == k) 1 0

pub times_cons : (k n : ℕ) (ns : List ℕ) → times k (n ∷ ns) ≡ tick n k + times k ns
times_cons k n ns = sum_by-cons (λ n. cond (n == k) 1 0) n ns

pub tick_same : (n k : ℕ) → k ≡ n → tick n k ≡ 1
tick_same n k e = ap (λ (b : Bool). cond {A = ℕ} b 1 0) (eq-eqb n k (sym e))

tick_other : (n k : ℕ) → k ≢ n → tick n k ≡ 0
tick_other n k ne = let other : (n == k) ≡ false = grind (arith, nat_tests) in ap (λ (b : Bool). cond {A = ℕ} b 1 0) other

-- an entry that was written
got_here : (m : Table) (n : ℕ) (v : List ℕ × ℕ) (k : ℕ) → k ≡ n → map.get (map.insert m n v) k ≡ Some v
got_here m n v k e = get-insert nat_cmp_total m n v k ∙ rw (e, same_key n) refl

got_other : (m : Table) (n : ℕ) (v : List ℕ × ℕ) (k : ℕ) → k ≢ n → map.get (map.insert m n v) k ≡ map.get m k
got_other m n v k ne = get-insert nat_cmp_total m n v k ∙ rw (other_key k n ne) refl

removed_here : (m : Table) (n k : ℕ) → k ≡ n → map.get (map.remove m n) k ≡ None
removed_here m n k e = get-remove nat_cmp_total m n k ∙ rw (e, same_key n) refl

removed_other : (m : Table) (n k : ℕ) → k ≢ n → map.get (map.remove m n) k ≡ map.get m k
removed_other m n k ne = get-remove nat_cmp_total m n k ∙ rw (other_key k n ne) refl

-- one use more at that number, and none elsewhere
pub one_more : (m : Table) (n : ℕ) (t : List ℕ) (k : ℕ) → uses_at (map.insert m n (t, uses_at m n + 1)) k ≡ uses_at m k + tick n k
one_more m n t k =
    elim (eq_or k n) [
      | inl e ↦ omega (arith, ap uses_in (got_here m n (t, uses_at m n + 1) k e), tick_same n k e, ap (λ (j : ℕ). uses_at m j) e)
      | inr ne ↦ omega (arith, ap uses_in (got_other m n (t, uses_at m n + 1) k ne), tick_other n k ne)
    ]

less_case : (m : Table) (n k : ℕ) (b : Bool) → (uses_at m n == 1) ≡ b → 0 < uses_at m n
    → uses_at (cond b (map.remove m n) (map.insert m n (token_in m n, uses_at m n - 1))) k + tick n k ≡ uses_at m k
less_case m n k true t some =
    elim (eq_or k n) [
      | inl e ↦
          let one : uses_at m n ≡ 1 = grind (arith, nat_tests) in
          omega (arith, one, ap uses_in (removed_here m n k e), tick_same n k e, ap (λ (j : ℕ). uses_at m j) e)
      | inr ne ↦ omega (arith, ap uses_in (removed_other m n k ne), tick_other n k ne)
    ]
less_case m n k false t some =
    elim (eq_or k n) [
      | inl e ↦ omega (arith, some, ap uses_in (got_here m n (token_in m n, uses_at m n - 1) k e), tick_same n k e, ap (λ (j : ℕ). uses_at m j) e)
      | inr ne ↦ omega (arith, ap uses_in (got_other m n (token_in m n, uses_at m n - 1) k ne), tick_other n k ne)
    ]

-- one use less at that number, and none elsewhere
pub one_less : (m : Table) (n k : ℕ) → 0 < uses_at m n → uses_at (uncounted m n) k + tick n k ≡ uses_at m k
one_less m n k some = less_case m n k (uses_at m n == 1) refl some

pub uses_counted_all : (m : Table) (ts : List (List ℕ)) (ns : List ℕ) (k : ℕ) → length ns ≡ length ts → uses_at (counted_all m ts ns) k ≡ uses_at m k + times k ns
uses_counted_all m [] [] k len = omega arith
uses_counted_all m [] (n ∷ ns) k len = absurd (omega arith)
uses_counted_all m (t ∷ ts) [] k len = absurd (omega arith)
uses_counted_all m (t ∷ ts) (n ∷ ns) k len = omega (arith, uses_counted_all (counted m t n) ts ns k (omega arith), one_more m n t k, times_cons k n ns)

pub uses_again_all : (m : Table) (ns : List ℕ) (k : ℕ) → uses_at (counted_again_all m ns) k ≡ uses_at m k + times k ns
uses_again_all m [] k = omega arith
uses_again_all m (n ∷ ns) k = omega (arith, uses_again_all (counted_again m n) ns k, one_more m n (token_in m n) k, times_cons k n ns)

pub uses_uncounted_all : (m : Table) (ns : List ℕ) → ((k : ℕ) → times k ns ≤ uses_at m k) → (k : ℕ) → uses_at (uncounted_all m ns) k + times k ns ≡ uses_at m k
uses_uncounted_all m [] counts k = omega arith
uses_uncounted_all m (n ∷ ns) counts k =
    let some : 0 < uses_at m n = omega (arith, counts n, times_cons n n ns, tick_same n n refl) in
    let rest : (j : ℕ) → times j ns ≤ uses_at (uncounted m n) j = λ j. omega (arith, counts j, times_cons j n ns, one_less m n j some) in
    omega (arith, uses_uncounted_all (uncounted m n) ns rest k, one_less m n k some, times_cons k n ns)

-- two tables with the same tokens of a name
same_tokens : (m m' : Table) (name : List ℕ) → All (λ n. token_in m' n ≡ token_in m n) name → list_map (token_in m') name ≡ list_map (token_in m) name
same_tokens m m' [] all = refl
same_tokens m m' (n ∷ ns) all =
    let head : token_in m' n ≡ token_in m n = all 0 0 (omega arith) in
    let tail : list_map (token_in m') ns ≡ list_map (token_in m) ns = same_tokens m m' ns (λ k d below. all (suc k) d (omega arith)) in
    cc

pub used_case : (m : Table) (n : ℕ) (o : Option (List ℕ × ℕ)) → map.get m n ≡ o → 0 < uses_in o → Holds m (token_in m n) n
used_case m n None e some = absurd (omega arith)
used_case m n (Some entry) e some = subst (λ (t : List ℕ). Holds m t n) (sym (token_of_got m n entry e)) (entry.1, e)

pub text_counted_all : (m : Table) (ts : List (List ℕ)) (ns name : List ℕ) → DrawsAll (Holds m) ts ns → InUseAll m name → text_in (counted_all m ts ns) name ≡ text_in m name
text_counted_all m ts ns name draws used = ap (join_with_byte 46) (same_tokens m (counted_all m ts ns) name (λ k d below.
    let n = get_or name k d in
    let h = holds_all m (token_in m n) n ts ns draws (used_case m n (map.get m n) refl (used k d below)) in
    token_of_got (counted_all m ts ns) n (token_in m n, h.0) h.1))

again_token : (m : Table) (n k : ℕ) → token_in (counted_again m n) k ≡ token_in m k
again_token m n k =
    elim (eq_or k n) [
      | inl e ↦ ap token_of_entry (got_here m n (token_in m n, uses_at m n + 1) k e) ∙ ap (token_in m) (sym e)
      | inr ne ↦ ap token_of_entry (got_other m n (token_in m n, uses_at m n + 1) k ne)
    ]

again_tokens : (m : Table) (ns : List ℕ) (k : ℕ) → token_in (counted_again_all m ns) k ≡ token_in m k
again_tokens m [] k = refl
again_tokens m (n ∷ ns) k = again_tokens (counted_again m n) ns k ∙ again_token m n k

pub text_again_all : (m : Table) (held name : List ℕ) → text_in (counted_again_all m held) name ≡ text_in m name
text_again_all m held name = ap (join_with_byte 46) (same_tokens m (counted_again_all m held) name (λ k d below. again_tokens m held (get_or name k d)))

-- a number that is still in use was so before, under the same token
still_case : (m : Table) (n k : ℕ) (b : Bool) → 0 < uses_at (cond b (map.remove m n) (map.insert m n (token_in m n, uses_at m n - 1))) k
    → (0 < uses_at m k) × (token_in (cond b (map.remove m n) (map.insert m n (token_in m n, uses_at m n - 1))) k ≡ token_in m k)
still_case m n k true some =
    elim (eq_or k n) [
      | inl e ↦ absurd (omega (arith, ap uses_in (removed_here m n k e)))
      | inr ne ↦ (omega (arith, ap uses_in (removed_other m n k ne)), ap token_of_entry (removed_other m n k ne))
    ]
still_case m n k false some =
    elim (eq_or k n) [
      | inl e ↦ (
        omega (arith, ap uses_in (got_here m n (token_in m n, uses_at m n - 1) k e), ap (λ (j : ℕ). uses_at m j) e),
        ap token_of_entry (got_here m n (token_in m n, uses_at m n - 1) k e) ∙ ap (token_in m) (sym e),
      )
      | inr ne ↦ (omega (arith, ap uses_in (got_other m n (token_in m n, uses_at m n - 1) k ne)), ap token_of_entry (got_other m n (token_in m n, uses_at m n - 1) k ne))
    ]

pub still_used : (m : Table) (ns : List ℕ) (k : ℕ) → 0 < uses_at (uncounted_all m ns) k → (0 < uses_at m k) × (token_in (uncounted_all m ns) k ≡ token_in m k)
still_used m [] k some = (some, refl)
still_used m (n ∷ ns) k some =
    let later = still_used (uncounted m n) ns k some in
    let now = still_case m n k (uses_at m n == 1) later.0 in
    (now.0, later.1 ∙ now.1)

pub text_uncounted_all : (m : Table) (dropped name : List ℕ) → InUseAll (uncounted_all m dropped) name → text_in (uncounted_all m dropped) name ≡ text_in m name
text_uncounted_all m dropped name used = ap (join_with_byte 46) (same_tokens m (uncounted_all m dropped) name (λ k d below. (still_used m dropped (get_or name k d) (used k d below)).1))

-- where each number has as many uses as it stands in the name, all are in use
pub in_use_all : (m : Table) (name : List ℕ) → ((n : ℕ) → times n name ≤ uses_at m n) → InUseAll m name
in_use_all m [] counts = λ k d below. absurd (omega arith)
in_use_all m (n ∷ ns) counts =
    let rest : (j : ℕ) → times j ns ≤ uses_at m j = λ j. omega (arith, counts j, times_cons j n ns) in
    All-cons (λ k. 0 < uses_at m k) n ns (omega (arith, counts n, times_cons n n ns, tick_same n n refl)) (in_use_all m ns rest)

-- an entry has uses
abbrev Used : Option (List ℕ × ℕ) → Type 0
Used o = (entry : List ℕ × ℕ) → o ≡ Some entry → 0 < entry.1

same_entry : (o p : Option (List ℕ × ℕ)) → Used o → Used p → uses_in o ≡ uses_in p → (0 < uses_in p → token_of_entry o ≡ token_of_entry p) → o ≡ p
same_entry None None used used' uses token = refl
same_entry None (Some f) used used' uses token = absurd (omega (arith, uses, used' f refl))
same_entry (Some e) None used used' uses token = absurd (omega (arith, uses, used e refl))
same_entry (Some e) (Some f) used used' uses token = let same : e.0 ≡ f.0 = token (used' f refl) in λ i. Some (same i, uses i)

-- the uses of interned tokens
pub interns_uses : (m m' : Table) (ts : List (List ℕ)) (ns : List ℕ) → Interns m ts m' ns → (k : ℕ) → uses_at m' k ≡ uses_at m k + times k ns
interns_uses m m' ts ns i k = ap (λ (t : Table). uses_at t k) i.counted_are ∙ uses_counted_all m ts ns k (drawn_length (Holds m) ts ns i.drawn)

-- Where the numbers of interned tokens are uncounted, the table is the one before.
pub all_undone : (m m' last : Table) (ts : List (List ℕ)) (ns : List ℕ) → IsTable m → IsTable last → Interns m ts m' ns → last ≡ uncounted_all m' ns → last ≡ m
all_undone m m' last ts ns is is' i e =
    let more = interns_uses m m' ts ns i in
    let less : (k : ℕ) → uses_at last k + times k ns ≡ uses_at m' k = λ k. ap (λ (t : Table). uses_at t k + times k ns) e ∙ uses_uncounted_all m' ns (λ j. omega (arith, more j)) k in
    same_map nat_cmp_total nat_cmp-IsAntisymmetric last m (λ k. same_entry (map.get last k) (map.get m k) (λ f got. is'.used k f.0 f.1 got) (λ f got. is.used k f.0 f.1 got) (omega (arith, more k, less k)) (λ some.
    let h = holds_all m (token_in m k) k ts ns i.drawn (used_case m k (map.get m k) refl some) in
    ap (λ (t : Table). token_in t k) e
    ∙ ((still_used m' ns k (subst (λ (t : Table). 0 < uses_at t k) e (omega (arith, some, more k, less k)))).1
    ∙ (ap (λ (t : Table). token_in t k) i.counted_are ∙ token_of_got (counted_all m ts ns) k (token_in m k, h.0) h.1))))
