-- The numbers of a name counted once more, or once less, one after another; and the text of a name, token by token.
use Rattle.std.proofs.Common.{◌≡◌, ℕ, suc, ◌+◌, ◌<◌, ◌≤◌, List, [], ◌∷◌, ◌++◌, length, map as list_map, All, take, drop, get_or, refl, ap, sym, ◌∙◌, subst, arith, add-one, drop-cons}
use Rattle.std.proofs.lemmas.List.{take_more, flat_map_more, append-nil, drop_all}
use Rattle.std.specs.List.{flat_map, join_with_byte}
use Rattle.symbol_table.specs.Table.{Table, uses_at, times, token_in, text_in, counted_again, counted_again_all, uncounted, uncounted_all}
use Rattle.symbol_table.proofs.Adding.{tick, times_cons, tick_same, one_more, one_less, uses_again_all, uses_uncounted_all}

next_number : (numbers : List ℕ) (i : ℕ) → i < length numbers → drop i numbers ≡ get_or numbers i 0 ∷ drop (i + 1) numbers
next_number numbers i below = rw add-one (drop-cons numbers i 0 below)

-- what holds of all numbers from a place on
from_next : (P : ℕ → Type 0) (n : ℕ) (rest : List ℕ) → All P (n ∷ rest) → P n × All P rest
from_next P n rest all = (all 0 0 (omega arith), λ k d below. all (suc k) d (omega arith))

module _ (m m' : Table) (numbers : List ℕ) (i : ℕ) (below : i < length numbers) where
  pub next_used : All (λ n. 0 < uses_at m n) (drop i numbers) → 0 < uses_at m (get_or numbers i 0)
  next_used all = (from_next (λ n. 0 < uses_at m n) (get_or numbers i 0) (drop (i + 1) numbers) (subst (All (λ n. 0 < uses_at m n)) (next_number numbers i below) all)).0

  pub held_rest : m' ≡ counted_again m (get_or numbers i 0) → counted_again_all m' (drop (i + 1) numbers) ≡ counted_again_all m (drop i numbers)
  held_rest is = ap (λ (t : Table). counted_again_all t (drop (i + 1) numbers)) is ∙ ap (counted_again_all m) (sym (next_number numbers i below))

  pub held_used : m' ≡ counted_again m (get_or numbers i 0) → All (λ n. 0 < uses_at m n) (drop i numbers) → All (λ n. 0 < uses_at m' n) (drop (i + 1) numbers)
  held_used is all =
      let rest = (from_next (λ n. 0 < uses_at m n) (get_or numbers i 0) (drop (i + 1) numbers) (subst (All (λ n. 0 < uses_at m n)) (next_number numbers i below) all)).1 in
      λ k d less.
      let n = get_or (drop (i + 1) numbers) k d in
      let old : 0 < uses_at m n = rest k d less in
      subst (λ (t : Table). 0 < uses_at t n) (sym is) (omega (arith, old, one_more m (get_or numbers i 0) (token_in m (get_or numbers i 0)) n))

  pub dropped_rest : m' ≡ uncounted m (get_or numbers i 0) → uncounted_all m' (drop (i + 1) numbers) ≡ uncounted_all m (drop i numbers)
  dropped_rest is = ap (λ (t : Table). uncounted_all t (drop (i + 1) numbers)) is ∙ ap (uncounted_all m) (sym (next_number numbers i below))

  counts_next : (k : ℕ) → times k (drop i numbers) ≡ tick (get_or numbers i 0) k + times k (drop (i + 1) numbers)
  counts_next k = ap (times k) (next_number numbers i below) ∙ times_cons k (get_or numbers i 0) (drop (i + 1) numbers)

  pub next_counted : ((n : ℕ) → times n (drop i numbers) ≤ uses_at m n) → 0 < uses_at m (get_or numbers i 0)
  next_counted counts =
      let n = get_or numbers i 0 in
      omega (arith, counts n, counts_next n, tick_same n n refl)

  pub dropped_used : m' ≡ uncounted m (get_or numbers i 0) → ((n : ℕ) → times n (drop i numbers) ≤ uses_at m n) → (n : ℕ) → times n (drop (i + 1) numbers) ≤ uses_at m' n
  dropped_used is counts k =
      let n = get_or numbers i 0 in
      subst (λ (t : Table). times k (drop (i + 1) numbers) ≤ uses_at t k) (sym is) (omega (arith, counts k, counts_next k, one_less m n k (next_counted counts)))

-- the text of a name, from its first token on
text_from : (c : ℕ) (f : ℕ → List ℕ) (x : List ℕ) (ns : List ℕ) → join_with_byte c (x ∷ list_map f ns) ≡ x ++ flat_map (λ n. c ∷ f n) ns
text_from c f x [] = sym (append-nil x)
text_from c f x (n ∷ ns) = ap (λ (s : List ℕ). x ++ c ∷ s) (text_from c f (f n) ns)

pub text_whole : (m : Table) (first : ℕ) (rest : List ℕ) → text_in m (first ∷ rest) ≡ token_in m first ++ flat_map (λ n. 46 ∷ token_in m n) rest
text_whole m first rest = text_from 46 (token_in m) (token_in m first) rest

-- a further token
pub text_more : (m : Table) (text : List ℕ) (rest : List ℕ) (i : ℕ) → i < length rest
    → (text ++ flat_map (λ n. 46 ∷ token_in m n) (take i rest)) ++ 46 ∷ token_in m (get_or rest i 0) ≡ text ++ flat_map (λ n. 46 ∷ token_in m n) (take (i + 1) rest)
text_more m text rest i below =
    flat_map_more (λ n. 46 ∷ token_in m n) text (take i rest) (get_or rest i 0)
    ∙ ap (λ (l : List ℕ). text ++ flat_map (λ n. 46 ∷ token_in m n) l) (sym (take_more rest i 0 below))

pub tail_used : (m : Table) (first : ℕ) (rest : List ℕ) (i : ℕ) → All (λ n. 0 < uses_at m n) (first ∷ rest) → i < length rest → 0 < uses_at m (get_or rest i 0)
tail_used m first rest i all below = all (suc i) 0 (omega arith)

nothing_left : (numbers : List ℕ) (i : ℕ) → length numbers ≤ i → drop i numbers ≡ []
nothing_left numbers i end = drop_all i numbers end

-- the uses at the end of a loop
pub held_uses : (old m : Table) (numbers name : List ℕ) (i : ℕ) → length numbers ≤ i → numbers ≡ name → counted_again_all m (drop i numbers) ≡ counted_again_all old numbers → (n : ℕ) → uses_at m n ≡ uses_at old n + times n name
held_uses old m numbers name i end is rest n =
    let e : m ≡ counted_again_all old numbers = sym (ap (counted_again_all m) (nothing_left numbers i end)) ∙ rest in
    ap (λ (t : Table). uses_at t n) e ∙ (uses_again_all old numbers n ∙ ap (λ (l : List ℕ). uses_at old n + times n l) is)

pub dropped_uses : (old m : Table) (numbers name : List ℕ) (i : ℕ) → length numbers ≤ i → numbers ≡ name → uncounted_all m (drop i numbers) ≡ uncounted_all old numbers → ((n : ℕ) → times n name ≤ uses_at old n) → (n : ℕ) → uses_at m n + times n name ≡ uses_at old n
dropped_uses old m numbers name i end is rest counts n =
    let e : m ≡ uncounted_all old numbers = sym (ap (uncounted_all m) (nothing_left numbers i end)) ∙ rest in
    let f : m ≡ uncounted_all old name = e ∙ ap (uncounted_all old) is in
    ap (λ (t : Table). uses_at t n + times n name) f ∙ uses_uncounted_all old name counts n
