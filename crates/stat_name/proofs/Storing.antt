-- Stored names: no one begins another, and what is known while data are read.
use Rattle.std.proofs.Common.{◌≡◌, ℕ, suc, ◌+◌, ◌-◌, ◌*◌, ◌<◌, ◌≤◌, ◌^◌, List, [], ◌∷◌, ◌++◌, length, take, drop, Option, Some, None, All, refl, ap, sym, ◌∙◌, subst, arith, append_assoc}
use Rattle.std.proofs.lemmas.List.{length-append, length-drop, length-take-le, take-append-drop, flat_map_more}
use Rattle.std.proofs.lemmas.List.Elements.{All-drop}
use Rattle.std.proofs.Math.Seq.{drop-append_seam, take-append_seam, take-length}
use Rattle.stat_name.specs.declared.names.TheConstants.{MAX_NUMBERS}
use Rattle.stat_name.specs.Spelling.{spelling, BeginsWith, Takes}
use Rattle.stat_name.specs.StoredName.{IsName, data_of, stored, IsDataOf, BeginsWithName, Reads}
use Rattle.stat_name.proofs.Spellings.{spelling_first, spelling_begins_one, length-spelling-le}

-- what a slice from a place on shows
pub tail_is : (bytes : List ℕ) (at : ℕ) → take (length bytes - at) (drop at bytes) ≡ drop at bytes
tail_is bytes at = ap (λ (k : ℕ). take k (drop at bytes)) (sym (length-drop at bytes)) ∙ take-length (drop at bytes)

-- two lists of one length, each with more behind it
split_same : (a b x y : List ℕ) → length a ≡ length b → a ++ x ≡ b ++ y → (a ≡ b) × (x ≡ y)
split_same [] [] x y len e = (refl, e)
split_same [] (d ∷ ds) x y len e = absurd (omega arith)
split_same (c ∷ cs) [] x y len e = absurd (omega arith)
split_same (c ∷ cs) (d ∷ ds) x y len e =
    let tails : cs ++ x ≡ ds ++ y = cc in
    let heads : c ≡ d = cc in
    let rest = split_same cs ds x y (omega arith) tails in
    let same : cs ≡ ds = rest.0 in
    (cc, rest.1)

not_empty : (n : ℕ) (xs : List ℕ) → [] ≡ spelling n ++ xs → ⊥
not_empty n xs e =
    let first = spelling_first n in
    let e' : [] ≡ first.0 ∷ (first.1 ++ xs) = e ∙ ap (λ (s : List ℕ). s ++ xs) first.2 in
    cc

-- data that begin with the data of some numbers
pub data_begin : (xs ys numbers : List ℕ) → data_of xs ++ ys ≡ data_of numbers → (more : List ℕ) × (numbers ≡ xs ++ more) × (ys ≡ data_of more)
data_begin [] ys numbers e = (numbers, refl, e)
data_begin (x ∷ xs) ys [] e = absurd (not_empty x (data_of xs ++ ys) (sym (sym (append_assoc (spelling x) (data_of xs) ys) ∙ e)))
data_begin (x ∷ xs) ys (n ∷ ns) e =
    let same = spelling_begins_one x n (data_of xs ++ ys) (data_of ns) (sym (append_assoc (spelling x) (data_of xs) ys) ∙ e) in
    let rest = data_begin xs ys ns same.1 in
    let head : x ≡ n = same.0 in
    let tail : ns ≡ xs ++ rest.0 = rest.1 in
    (rest.0, cc, rest.2)

data_end : (more : List ℕ) → [] ≡ data_of more → more ≡ []
data_end [] e = refl
data_end (n ∷ ns) e = absurd (not_empty n (data_of ns) e)

append_nothing : (xs : List ℕ) → xs ++ [] ≡ xs
append_nothing [] = refl
append_nothing (x ∷ xs) = ap (λ (s : List ℕ). x ∷ s) (append_nothing xs)

-- two names with one list of data
pub data_same : (xs numbers : List ℕ) → data_of xs ≡ data_of numbers → xs ≡ numbers
data_same xs numbers e =
    let rest = data_begin xs [] numbers (append_nothing (data_of xs) ∙ e) in
    let none : rest.0 ≡ [] = data_end rest.0 rest.2 in
    sym (rest.1 ∙ (ap (λ (s : List ℕ). xs ++ s) none ∙ append_nothing xs))

-- no stored name begins another
pub stored_begins_one : (one other xs ys : List ℕ) → stored one ++ xs ≡ stored other ++ ys → (one ≡ other) × (xs ≡ ys)
stored_begins_one one other xs ys e =
    let l = sym (append_assoc (spelling (length (data_of one))) (data_of one) xs) ∙ (e ∙ append_assoc (spelling (length (data_of other))) (data_of other) ys) in
    let counts = spelling_begins_one (length (data_of one)) (length (data_of other)) (data_of one ++ xs) (data_of other ++ ys) l in
    let parts = split_same (data_of one) (data_of other) xs ys counts.0 counts.1 in
    (data_same one other parts.0, parts.1)

some_pair : (n m : ℕ) (k l : ℕ) → n ≡ m → k ≡ l → ◌≡◌ {A = Option (ℕ × ℕ)} (Some (n, k)) (Some (m, l))
some_pair n m k l e f = cc

pub number_read_again : (n : ℕ) (rest : List ℕ) (answer : Option (ℕ × ℕ)) → n < 2 ^ 32 → Takes (spelling n ++ rest) answer → answer ≡ Some (n, length (spelling n))
number_read_again n rest None small h = absurd (h n (record { small = small; rest = rest; bytes_are = refl }))
number_read_again n rest (Some r) small h =
    let same : r.0 ≡ n = sym (spelling_begins_one n r.0 rest h.0.rest h.0.bytes_are).0 in
    some_pair r.0 n r.1 (length (spelling n)) same (h.1 ∙ ap (λ (k : ℕ). length (spelling k)) same)

some_name : (n m : List ℕ) (k l : ℕ) → n ≡ m → k ≡ l → ◌≡◌ {A = Option (List ℕ × ℕ)} (Some (n, k)) (Some (m, l))
some_name n m k l e f = cc

pub name_read_again : (numbers rest : List ℕ) (answer : Option (List ℕ × ℕ)) → IsName numbers → All (λ n. n < 2 ^ 32) numbers → Reads (stored numbers ++ rest) answer
    → answer ≡ Some (numbers, length (stored numbers))
name_read_again numbers rest None name small h = absurd (h numbers (record { name = name; small = small; rest = rest; bytes_are = refl }))
name_read_again numbers rest (Some r) name small h =
    let same : r.0 ≡ numbers = sym (stored_begins_one numbers r.0 rest h.0.rest h.0.bytes_are).0 in
    some_name r.0 numbers r.1 (length (stored numbers)) same (h.1 ∙ ap (λ (s : List ℕ). length (stored s)) same)

-- the first bytes are the data of the numbers so far
pub record DataRead (bytes numbers : List ℕ) (at : ℕ) : Type 0 where
  pub few : length numbers ≤ MAX_NUMBERS
  pub each : All (λ n. 0 < n) numbers
  pub small : All (λ n. n < 2 ^ 32) numbers
  pub at_is : at ≡ length (data_of numbers)
  pub bytes_are : bytes ≡ data_of numbers ++ drop at bytes

-- what holds of all numbers holds of one of them
pub next_all : (P : ℕ → Type 0) (name front : List ℕ) (n : ℕ) (rest : List ℕ) → name ≡ front ++ n ∷ rest → All P name → P n
next_all P name front n rest is all =
    let d : All P (drop (length front) name) = All-drop P (length front) name all in
    let e : drop (length front) name ≡ n ∷ rest = ap (λ (s : List ℕ). drop (length front) s) is ∙ drop-append_seam front (n ∷ rest) in
    let a : All P (n ∷ rest) = subst (All P) e d in
    a 0 0 (omega arith)

pub data_push : (numbers : List ℕ) (n : ℕ) → data_of numbers ++ spelling n ≡ data_of (numbers ++ n ∷ [])
data_push numbers n = flat_map_more spelling [] numbers n

module _ (bytes numbers : List ℕ) (at : ℕ) (read : DataRead bytes numbers at) where
  -- a name that has these data begins with the numbers so far
  pub name_begins : (name : List ℕ) → IsDataOf bytes name → (more : List ℕ) × (name ≡ numbers ++ more) × (drop at bytes ≡ data_of more)
  name_begins name is = data_begin numbers (drop at bytes) name (sym read.bytes_are ∙ is.bytes_are)

  going_on : (name more : List ℕ) → name ≡ numbers ++ more → drop at bytes ≡ data_of more → All (λ n. n < 2 ^ 32) name → at < length bytes
      → (n : ℕ) × (rest : List ℕ) × (name ≡ numbers ++ n ∷ rest) × BeginsWith (drop at bytes) n
  going_on name [] is spelled small before =
      let none : length (drop at bytes) ≡ 0 = ap length spelled in
      absurd (omega (arith, length-drop at bytes))
  going_on name (n ∷ rest) is spelled small before = (
    n,
    rest,
    is,
    record {
      small = next_all (λ k. k < 2 ^ 32) name numbers n rest is small;
      rest = data_of rest;
      bytes_are = spelled;
    },
  )

  -- and goes on with the number that is read next
  pub name_goes_on : (name : List ℕ) → IsDataOf bytes name → at < length bytes
      → (n : ℕ) × (more : List ℕ) × (name ≡ numbers ++ n ∷ more) × BeginsWith (drop at bytes) n
  name_goes_on name is before =
      let b = name_begins name is in
      going_on name b.0 b.1 b.2 is.small before

  -- with the next number that a reader found
  pub name_next : (name : List ℕ) → IsDataOf bytes name → at < length bytes → (n : ℕ) → BeginsWith (drop at bytes) n
      → (0 < n) × (length numbers < MAX_NUMBERS)
  name_next name is before n next =
      let on = name_goes_on name is before in
      let same = spelling_begins_one n on.0 next.rest on.3.rest (sym next.bytes_are ∙ on.3.bytes_are) in
      let above : 0 < on.0 = next_all (λ k. 0 < k) name numbers on.0 on.1 on.2 is.name.each in
      (omega (arith, same.0, above), omega (arith, ap length on.2, is.name.few, length-append numbers (on.0 ∷ on.1)))

  nothing_left : (more : List ℕ) → drop at bytes ≡ data_of more → length bytes ≤ at → more ≡ []
  nothing_left [] spelled end = refl
  nothing_left (n ∷ rest) spelled end =
      let first = spelling_first n in
      absurd (omega (arith, ap length spelled, length-drop at bytes, length-append (spelling n) (data_of rest), ap length first.2))

  -- and ends where the bytes end
  pub name_ends : (name : List ℕ) → IsDataOf bytes name → length bytes ≤ at → 1 ≤ length numbers
  name_ends name is end =
      let b = name_begins name is in
      let none = nothing_left b.0 b.2 end in
      omega (arith, is.name.some, ap length b.1, length-append numbers b.0, ap length none)

-- the data of numbers below 2^32 have at most 5 bytes for each
data_length : (numbers : List ℕ) → All (λ n. n < 2 ^ 32) numbers → length (data_of numbers) ≤ 5 * length numbers
data_length [] small = omega arith
data_length (n ∷ ns) small =
    let rest = data_length ns (λ k d below. small (suc k) d (omega arith)) in
    omega (arith, length-append (spelling n) (data_of ns), length-spelling-le n (small 0 0 (omega arith)))

-- a stored name begins with a number
pub name_number : (bytes numbers : List ℕ) → BeginsWithName bytes numbers → BeginsWith bytes (length (data_of numbers))
name_number bytes numbers is = record {
  small = omega (arith, data_length numbers is.small, is.name.few);
  rest = data_of numbers ++ is.rest;
  bytes_are = is.bytes_are ∙ append_assoc (spelling (length (data_of numbers))) (data_of numbers) is.rest;
}

-- bytes that begin with a number
module _ (bytes : List ℕ) (len start : ℕ) (first : BeginsWith bytes len) (start_is : start ≡ length (spelling len)) where
  rest_is : drop start bytes ≡ first.rest
  rest_is =
      ap (λ (k : ℕ). drop k bytes) start_is ∙ (ap (λ (s : List ℕ). drop (length (spelling len)) s) first.bytes_are ∙ drop-append_seam (spelling len) first.rest)

  name_rest : (numbers : List ℕ) (is : BeginsWithName bytes numbers) → (len ≡ length (data_of numbers)) × (drop start bytes ≡ data_of numbers ++ is.rest)
  unfolding name_number
  name_rest numbers is =
      let n = name_number bytes numbers is in
      let same = spelling_begins_one len (length (data_of numbers)) first.rest n.rest (sym first.bytes_are ∙ n.bytes_are) in
      (same.0, rest_is ∙ same.1)

  pub name_fits : (numbers : List ℕ) → BeginsWithName bytes numbers → len ≤ length (drop start bytes)
  name_fits numbers is =
      let r = name_rest numbers is in
      omega (arith, r.0, ap length r.1, length-append (data_of numbers) is.rest)

  pub name_data : (numbers : List ℕ) → BeginsWithName bytes numbers → IsDataOf (take len (drop start bytes)) numbers
  name_data numbers is =
      let r = name_rest numbers is in record {
        name = is.name;
        small = is.small;
        bytes_are = ap (λ (k : ℕ). take k (drop start bytes)) r.0 ∙ (ap (λ (s : List ℕ). take (length (data_of numbers)) s) r.1 ∙ take-append_seam (data_of numbers) is.rest);
      }

  pub name_made : (numbers : List ℕ) → len ≤ length (drop start bytes) → IsDataOf (take len (drop start bytes)) numbers
      → BeginsWithName bytes numbers × (start + len ≡ length (stored numbers))
  name_made numbers fits is =
      let l : len ≡ length (data_of numbers) = sym (length-take-le len (drop start bytes) fits) ∙ ap length is.bytes_are in
      let r : drop start bytes ≡ data_of numbers ++ drop len (drop start bytes) =
      sym (take-append-drop len (drop start bytes)) ∙ ap (λ (s : List ℕ). s ++ drop len (drop start bytes)) is.bytes_are in
      let e : bytes ≡ stored numbers ++ drop len (drop start bytes) =
      first.bytes_are ∙ (ap (λ (s : List ℕ). spelling len ++ s) (sym rest_is ∙ r) ∙ (ap (λ (k : ℕ). spelling k ++ (data_of numbers ++ drop len (drop start bytes))) l
      ∙ sym (append_assoc (spelling (length (data_of numbers))) (data_of numbers) (drop len (drop start bytes))))) in (
        record { name = is.name; small = is.small; rest = drop len (drop start bytes); bytes_are = e },
        omega (arith, start_is, ap (λ (k : ℕ). length (spelling k)) l, l, length-append (spelling (length (data_of numbers))) (data_of numbers)),
      )
