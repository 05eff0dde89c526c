-- A release takes the scope from all metrics, though the code goes over those alone that the scope bears.
use Rattle.std.proofs.Common.{◌≡◌, ◌≢◌, ℕ, zero, suc, ◌+◌, ◌-◌, ◌<◌, ◌≤◌, ◌==◌, nat_eq, nat_le, not, ◌||◌, Bool, true, false, cond, Option, Some, None, List, [], ◌∷◌, map, filter, length, slice_get, get_or, All, refl, ap, sym, ◌∙◌, arith, inl, inr}
use Rattle.std.proofs.lemmas.Bool.Decides.{nat_tests}
use Rattle.std.proofs.Math.Bool.{or-true}
use Rattle.std.proofs.lemmas.List.Elements.{All-from_get_or}
use Rattle.std.specs.Option.{option_map, option_map_or}
use Rattle.stat_defs.specs.declared.metrics.Metric.{Metric}
use Rattle.book_state.specs.declared.metrics.MetricRow.{MetricRow}
use Rattle.book_state.specs.State.{Row, is_gone, bears}
use Rattle.book_state.specs.Step.{change_at, released, left_to}
use Rattle.book_state.specs.Bearing.{has, NoDoubles, bears_at}
use Rattle.book_state.specs.Metrics.{stored, lose, change_all}
use Rattle.book_state.proofs.Lists.{eq_or, get_change_same, get_change_other, same_at_all, get_map, true_false}

pub same_number : (k : ℕ) → nat_eq k k ≡ true
same_number k = grind (arith, nat_tests)

pub other_number : (i j : ℕ) → i ≢ j → nat_eq i j ≡ false
other_number i j ne = grind (arith, nat_tests)

is_number : (a b : ℕ) → nat_eq a b ≡ true → a ≡ b
is_number a b e = grind (arith, nat_tests)

pub or_parts : (a b : Bool) → (a || b) ≡ false → b ≡ false
or_parts true b h = absurd (true_false h)
or_parts false b h = h

-- the bearers without a scope
abbrev pub others : ℕ → List ℕ → List ℕ
others scope ks = filter (λ b. not (scope == b)) ks

none_step : (scope k : ℕ) (ks : List ℕ) (t : Bool) → nat_eq scope k ≡ t → (t || has scope ks) ≡ false → others scope ks ≡ ks → others scope (k ∷ ks) ≡ k ∷ ks
none_step scope k ks true e h rest = absurd (true_false h)
none_step scope k ks false e h rest = rw e (ap (λ (l : List ℕ). k ∷ l) rest)

pub none_taken : (scope : ℕ) (ks : List ℕ) → has scope ks ≡ false → others scope ks ≡ ks
none_taken scope [] h = refl
none_taken scope (k ∷ ks) h = none_step scope k ks (nat_eq scope k) refl h (none_taken scope ks (or_parts (nat_eq scope k) (has scope ks) h))

one_step : (scope k : ℕ) (ks : List ℕ) (t : Bool) → nat_eq scope k ≡ t → has k ks ≡ false → (t || has scope ks) ≡ true
    → (has scope ks ≡ true → length (others scope ks) + 1 ≡ length ks) → length (others scope (k ∷ ks)) + 1 ≡ length (k ∷ ks)
one_step scope k ks true e once h rest =
    let is : scope ≡ k = is_number scope k e in
    let same : others scope ks ≡ ks = none_taken scope ks (rw is once) in
    rw (e, same) (omega arith)
one_step scope k ks false e once h rest = let r = rest h in rw e (omega (arith, r))

-- a scope that stood once among the bearers was one of them
pub one_taken : (scope : ℕ) (ks : List ℕ) → NoDoubles ks → has scope ks ≡ true → length (others scope ks) + 1 ≡ length ks
one_taken scope [] apart h = absurd (true_false (sym h))
one_taken scope (k ∷ ks) apart h = one_step scope k ks (nat_eq scope k) refl apart.0 h (one_taken scope ks apart.1)

lose_step : (tag : ℕ) (metric : Metric) (n : ℕ) (left : List ℕ) → length left + 1 ≡ n → lose tag (record { metric = metric; bearers = n }) ≡ stored (left_to tag metric left)
lose_step tag metric n [] e = let t : nat_le n 1 ≡ true = grind (arith, nat_tests) in rw t refl
lose_step tag metric n (b ∷ bs) e =
    let t : nat_le n 1 ≡ false = grind (arith, nat_tests) in
    let m : n - 1 ≡ length (b ∷ bs) = omega arith in
    rw (t, m) refl

lose_is : (tag scope : ℕ) (row : Row) → NoDoubles row.bearers → bears scope row ≡ true → lose tag (stored row) ≡ stored (released scope tag row)
lose_is tag scope row apart h = rw h (lose_step tag row.metric (length row.bearers) (others scope row.bearers) (one_taken scope row.bearers apart h))

keep_is : (tag scope : ℕ) (row : Row) → bears scope row ≡ false → stored row ≡ stored (released scope tag row)
keep_is tag scope row h = rw h refl

get_lose_all : (tag : ℕ) (ids : List ℕ) (ms : List MetricRow) (k : ℕ) → NoDoubles ids → slice_get (change_all (lose tag) ids ms) k ≡ cond (has k ids) (option_map (lose tag) (slice_get ms k)) (slice_get ms k)
get_lose_all tag [] ms k apart = refl
get_lose_all tag (id ∷ ids) ms k apart =
    get_lose_all tag ids (change_at (lose tag) id ms) k apart.1 ∙ elim (eq_or k id) [
      | inl e ↦ rw (e, apart.0, same_number id) (get_change_same (lose tag) id ms)
      | inr ne ↦ rw (other_number k id ne, get_change_other (lose tag) id ms k ne) refl
    ]

row_at : (tag scope : ℕ) (o : Option Row) (t : Bool) → t ≡ option_map_or (bears scope) o false → ((row : Row) → o ≡ Some row → NoDoubles row.bearers)
    → cond t (option_map (lose tag) (option_map stored o)) (option_map stored o) ≡ option_map stored (option_map (released scope tag) o)
row_at tag scope None true e each = absurd (true_false e)
row_at tag scope None false e each = refl
row_at tag scope (Some row) true e each = ap Some (lose_is tag scope row (each row refl) (sym e))
row_at tag scope (Some row) false e each = ap Some (keep_is tag scope row (sym e))

pub released_all : (tag scope : ℕ) (ids : List ℕ) (rows : List Row) → NoDoubles ids → ((k : ℕ) → has k ids ≡ bears_at scope rows k)
    → ((k : ℕ) (row : Row) → slice_get rows k ≡ Some row → NoDoubles row.bearers) → change_all (lose tag) ids (map stored rows) ≡ map stored (map (released scope tag) rows)
released_all tag scope ids rows apart is each = same_at_all (change_all (lose tag) ids (map stored rows)) (map stored (map (released scope tag) rows)) (λ k.
    get_lose_all tag ids (map stored rows) k apart
    ∙ (ap (λ (o : Option MetricRow). cond (has k ids) (option_map (lose tag) o) o) (get_map stored rows k)
    ∙ (row_at tag scope (slice_get rows k) (has k ids) (is k) (each k)
    ∙ sym (get_map stored (map (released scope tag) rows) k ∙ ap (option_map stored) (get_map (released scope tag) rows k)))))

others_step : (scope k j : ℕ) (ks : List ℕ) (t : Bool) → nat_eq scope j ≡ t → k ≢ scope → has k (others scope ks) ≡ has k ks → has k (others scope (j ∷ ks)) ≡ has k (j ∷ ks)
others_step scope k j ks true e ne rest =
    let is : scope ≡ j = is_number scope j e in
    let no : nat_eq k j ≡ false = other_number k j (λ q. ne (omega (arith, q, is))) in
    rw (e, no) rest
others_step scope k j ks false e ne rest = rw e (ap (λ (b : Bool). nat_eq k j || b) rest)

-- the bearers that are left
pub has_others : (scope k : ℕ) (ks : List ℕ) → k ≢ scope → has k (others scope ks) ≡ has k ks
has_others scope k [] ne = refl
has_others scope k (j ∷ ks) ne = others_step scope k j ks (nat_eq scope j) refl ne (has_others scope k ks ne)

gone_step : (scope j : ℕ) (ks : List ℕ) (t : Bool) → nat_eq scope j ≡ t → has scope (others scope ks) ≡ false → has scope (others scope (j ∷ ks)) ≡ false
gone_step scope j ks true e rest = rw e rest
gone_step scope j ks false e rest = rw (e, e) rest

pub has_gone : (scope : ℕ) (ks : List ℕ) → has scope (others scope ks) ≡ false
has_gone scope [] = refl
has_gone scope (j ∷ ks) = gone_step scope j ks (nat_eq scope j) refl (has_gone scope ks)

-- what is left was there
pub has_left : (scope k : ℕ) (ks : List ℕ) → has k (others scope ks) ≡ true → has k ks ≡ true
has_left scope k ks h = elim (eq_or k scope) [
  | inl e ↦ absurd (true_false (sym h ∙ (ap (λ (j : ℕ). has j (others scope ks)) e ∙ has_gone scope ks)))
  | inr ne ↦ sym (has_others scope k ks ne) ∙ h
]

not_left : (scope j : ℕ) (ks : List ℕ) → has j ks ≡ false → has j (others scope ks) ≡ false
not_left scope j ks h = elim (eq_or j scope) [
  | inl e ↦ rw e (has_gone scope ks)
  | inr ne ↦ has_others scope j ks ne ∙ h
]

apart_step : (scope j : ℕ) (ks : List ℕ) (t : Bool) → nat_eq scope j ≡ t → NoDoubles (j ∷ ks) → NoDoubles (others scope ks) → NoDoubles (others scope (j ∷ ks))
apart_step scope j ks true e apart rest = rw e rest
apart_step scope j ks false e apart rest = rw e (not_left scope j ks apart.0, rest)

pub apart_others : (scope : ℕ) (ks : List ℕ) → NoDoubles ks → NoDoubles (others scope ks)
apart_others scope [] apart = tt
apart_others scope (j ∷ ks) apart = apart_step scope j ks (nat_eq scope j) refl apart (apart_others scope ks apart.1)

bearers_left : (tag : ℕ) (metric : Metric) (left : List ℕ) → (left_to tag metric left).bearers ≡ left
bearers_left tag metric [] = refl
bearers_left tag metric (b ∷ bs) = refl

released_bearers : (scope tag : ℕ) (row : Row) (t : Bool) → bears scope row ≡ t → (cond t (left_to tag row.metric (others scope row.bearers)) row).bearers ≡ others scope row.bearers
released_bearers scope tag row true e = bearers_left tag row.metric (others scope row.bearers)
released_bearers scope tag row false e = sym (none_taken scope row.bearers e)

released_are : (scope tag : ℕ) (row : Row) → (released scope tag row).bearers ≡ others scope row.bearers
released_are scope tag row = released_bearers scope tag row (bears scope row) refl

bears_other : (scope tag k : ℕ) (o : Option Row) → k ≢ scope → option_map_or (bears k) (option_map (released scope tag) o) false ≡ option_map_or (bears k) o false
bears_other scope tag k None ne = refl
bears_other scope tag k (Some row) ne = rw (released_are scope tag row) (has_others scope k row.bearers ne)

pub bears_at_other : (scope tag k : ℕ) (rows : List Row) (id : ℕ) → k ≢ scope → bears_at k (map (released scope tag) rows) id ≡ bears_at k rows id
bears_at_other scope tag k rows id ne = ap (λ (o : Option Row). option_map_or (bears k) o false) (get_map (released scope tag) rows id) ∙ bears_other scope tag k (slice_get rows id) ne

bears_none : (scope tag : ℕ) (o : Option Row) → option_map_or (bears scope) (option_map (released scope tag) o) false ≡ false
bears_none scope tag None = refl
bears_none scope tag (Some row) = rw (released_are scope tag row) (has_gone scope row.bearers)

pub bears_at_gone : (scope tag : ℕ) (rows : List Row) (id : ℕ) → bears_at scope (map (released scope tag) rows) id ≡ false
bears_at_gone scope tag rows id = ap (λ (o : Option Row). option_map_or (bears scope) o false) (get_map (released scope tag) rows id) ∙ bears_none scope tag (slice_get rows id)

left_there : (tag : ℕ) (metric : Metric) (left : List ℕ) → is_gone metric.life ≡ false → is_gone (left_to tag metric left).metric.life ≡ false
left_there tag metric [] there = refl
left_there tag metric (b ∷ bs) there = there

released_there : (scope tag : ℕ) (row : Row) (t : Bool) → is_gone row.metric.life ≡ false → is_gone (cond t (left_to tag row.metric (others scope row.bearers)) row).metric.life ≡ false
released_there scope tag row true there = left_there tag row.metric (others scope row.bearers) there
released_there scope tag row false there = there

has_at : (ids : List ℕ) (i : ℕ) → i < length ids → has (get_or ids i 0) ids ≡ true
has_at [] i h = absurd (omega (arith, h))
has_at (k ∷ ids) zero h = rw (same_number k) refl
has_at (k ∷ ids) (suc i) h = rw (has_at ids i (omega (arith, h))) (or-true (nat_eq (get_or ids i 0) k))

pub has_all : (P : ℕ → Type 0) (ids : List ℕ) → ((k : ℕ) → has k ids ≡ true → P k) → All P ids
has_all P ids each = All-from_get_or P ids 0 (λ i h. each (get_or ids i 0) (has_at ids i h))

-- numbers below n, each once, are at most n
pub few_apart : (n : ℕ) (ks : List ℕ) → NoDoubles ks → ((k : ℕ) → has k ks ≡ true → k < n) → length ks ≤ n
few_apart zero [] apart below = omega arith
few_apart zero (k ∷ ks) apart below = let h : has k (k ∷ ks) ≡ true = rw (same_number k) refl in absurd (omega (arith, below k h))
few_apart (suc n) ks apart below =
    few_step n ks (has n ks) refl apart (few_apart n (others n ks) (apart_others n ks apart) (λ k h.
    elim (eq_or k n) [
      | inl e ↦ absurd (true_false (sym h ∙ (ap (λ (j : ℕ). has j (others n ks)) e ∙ has_gone n ks)))
      | inr ne ↦ let was = below k (has_left n k ks h) in omega (arith, was, ne)
    ])) where
      few_step : (n : ℕ) (ks : List ℕ) (t : Bool) → has n ks ≡ t → NoDoubles ks → length (others n ks) ≤ n → length ks ≤ suc n
      few_step n ks true h apart few = let one = one_taken n ks apart h in omega (arith, one, few)
      few_step n ks false h apart few = let same = ap length (none_taken n ks h) in omega (arith, same, few)
