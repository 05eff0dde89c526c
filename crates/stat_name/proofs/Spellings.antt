-- How a spelling begins, and that no spelling begins another.
use Rattle.std.proofs.Common.{◌≡◌, ℕ, suc, ◌+◌, ◌*◌, ◌/◌, ◌%◌, ◌^◌, ◌<◌, ◌≤◌, ◌==◌, false, List, [], ◌∷◌, ◌++◌, length, refl, ap, sym, ◌∙◌, subst, arith, reverse, take, set, append_assoc, zero, inl, inr}
use Rattle.std.proofs.lemmas.Bool.{cases_lt}
use Rattle.std.proofs.Math.Nat.{pow-suc}
use Rattle.std.proofs.lemmas.List.{take_more_set}
use Rattle.std.specs.Int.Digits.{digits_of}
use Rattle.std.proofs.lemmas.Int.Digits.{digits_of_step}
use Rattle.std.proofs.lemmas.List.{reverse-append}
use Rattle.std.proofs.lemmas.Bool.Decides.{nat_tests}
use Rattle.stat_name.specs.Spelling.{groups, marked, spelling}

groups_above : (n : ℕ) → 0 < n → groups n ≡ reverse (digits_of 128 n)
groups_above n h = let e : (n == 0) ≡ false = grind (arith, nat_tests) in rw e refl

digits_reversed : (n : ℕ) → 0 < n → reverse (digits_of 128 n) ≡ (n % 128) ∷ reverse (digits_of 128 (n / 128))
digits_reversed n h = rw (digits_of_step 128 n (omega arith) h) (reverse-append (digits_of 128 (n / 128)) (n % 128 ∷ []))

groups_small : (n : ℕ) → n < 128 → groups n ≡ n ∷ []
groups_small zero h = refl
groups_small (suc k) h =
    let none : suc k / 128 ≡ 0 = omega arith in
    let same : suc k % 128 ≡ suc k = omega arith in
    let e : reverse (digits_of 128 (suc k)) ≡ suc k ∷ [] = rw (digits_reversed (suc k) (omega arith), none, same) refl in
    groups_above (suc k) (omega arith) ∙ e

groups_more : (n : ℕ) → 128 ≤ n → groups n ≡ (n % 128) ∷ groups (n / 128)
groups_more n h =
    let above : 0 < n / 128 = omega arith in
    groups_above n (omega arith) ∙ (digits_reversed n (omega arith) ∙ ap (λ (ds : List ℕ). (n % 128) ∷ ds) (sym (groups_above (n / 128) above)))

-- there is always a first group
groups_some : (n : ℕ) → (d : ℕ) × (ds : List ℕ) × (groups n ≡ d ∷ ds)
groups_some zero = (0, [], refl)
groups_some (suc k) = (suc k % 128, reverse (digits_of 128 (suc k / 128)), groups_above (suc k) (omega arith) ∙ digits_reversed (suc k) (omega arith))

marked_more : (d : ℕ) (ds : List ℕ) → (e : ℕ) (es : List ℕ) → ds ≡ e ∷ es → marked (d ∷ ds) ≡ (d + 128) ∷ marked ds
marked_more d ds e es is = rw is refl

pub spelling_one : (n : ℕ) → n < 128 → spelling n ≡ n ∷ []
unfolding spelling
spelling_one n h = ap marked (groups_small n h)

pub spelling_more : (n : ℕ) → 128 ≤ n → spelling n ≡ (n % 128 + 128) ∷ spelling (n / 128)
unfolding spelling
spelling_more n h =
    let more = groups_some (n / 128) in
    ap marked (groups_more n h) ∙ marked_more (n % 128) (groups (n / 128)) more.0 more.1 more.2

-- a spelling is not empty, and where more than one byte follows, the number is at least 128
pub spelling_first : (n : ℕ) → (d : ℕ) × (ds : List ℕ) × (spelling n ≡ d ∷ ds)
spelling_first n =
    elim (cases_lt n 128) [
      | inl small ↦ (n, [], spelling_one n small)
      | inr large ↦ (n % 128 + 128, spelling (n / 128), spelling_more n large)
    ]

div_below : (n p : ℕ) → n < p * 128 → n / 128 < p
div_below n p h = omega arith

-- by at most k bytes, where the number is below 128 ^ k
length_of_spelling : (k n : ℕ) → n < 128 ^ suc k → length (spelling n) ≤ suc k
length_of_spelling zero n h =
    let small : n < 128 = omega arith in
    rw (spelling_one n small) (omega arith)
length_of_spelling (suc k) n h =
    elim (cases_lt n 128) [
      | inl small ↦ rw (spelling_one n small) (omega arith)
      | inr large ↦
          let h' : n < 128 ^ suc k * 128 = subst (λ (p : ℕ). n < p) (pow-suc 128 (suc k)) h in
          let below : n / 128 < 128 ^ suc k = div_below n (128 ^ suc k) h' in
          rw (spelling_more n large) (omega (arith, length_of_spelling k (n / 128) below))
    ]

pub length-spelling-le : (n : ℕ) → n < 2 ^ 32 → length (spelling n) ≤ 5
length-spelling-le n h = length_of_spelling 4 n (omega arith)

head_of_cons : (a b : ℕ) (xs ys : List ℕ) → a ∷ xs ≡ b ∷ ys → (a ≡ b) × (xs ≡ ys)
head_of_cons a b xs ys e = (cc, cc)

same_start : (fuel m n : ℕ) (xs ys : List ℕ) → m ≤ fuel → spelling m ++ xs ≡ spelling n ++ ys → (m ≡ n) × (xs ≡ ys)
same_start zero m n xs ys le e =
    elim (cases_lt n 128) [
      | inl small ↦
          let e' : m ∷ xs ≡ n ∷ ys = rw (spelling_one m (omega arith), spelling_one n small) at e in
          head_of_cons m n xs ys e'
      | inr large ↦
          let e' : m ∷ xs ≡ (n % 128 + 128) ∷ (spelling (n / 128) ++ ys) = rw (spelling_one m (omega arith), spelling_more n large) at e in
          let same = head_of_cons m (n % 128 + 128) xs (spelling (n / 128) ++ ys) e' in
          absurd (omega arith)
    ]
same_start (suc fuel) m n xs ys le e =
    elim (cases_lt m 128) [
      | inl small_m ↦ elim (cases_lt n 128) [
        | inl small ↦
            let e' : m ∷ xs ≡ n ∷ ys = rw (spelling_one m small_m, spelling_one n small) at e in
            head_of_cons m n xs ys e'
        | inr large ↦
            let e' : m ∷ xs ≡ (n % 128 + 128) ∷ (spelling (n / 128) ++ ys) = rw (spelling_one m small_m, spelling_more n large) at e in
            let same = head_of_cons m (n % 128 + 128) xs (spelling (n / 128) ++ ys) e' in
            absurd (omega arith)
      ]
      | inr large_m ↦ elim (cases_lt n 128) [
        | inl small ↦
            let e' : (m % 128 + 128) ∷ (spelling (m / 128) ++ xs) ≡ n ∷ ys = rw (spelling_more m large_m, spelling_one n small) at e in
            let same = head_of_cons (m % 128 + 128) n (spelling (m / 128) ++ xs) ys e' in
            absurd (omega arith)
        | inr large ↦
            let e' : (m % 128 + 128) ∷ (spelling (m / 128) ++ xs) ≡ (n % 128 + 128) ∷ (spelling (n / 128) ++ ys) = rw (spelling_more m large_m, spelling_more n large) at e in
            let same = head_of_cons (m % 128 + 128) (n % 128 + 128) (spelling (m / 128) ++ xs) (spelling (n / 128) ++ ys) e' in
            let below = same_start fuel (m / 128) (n / 128) xs ys (omega arith) same.1 in
            (omega (arith, below.0, same.0), below.1)
      ]
    ]

-- no spelling begins another
pub spelling_begins_one : (m n : ℕ) (xs ys : List ℕ) → spelling m ++ xs ≡ spelling n ++ ys → (m ≡ n) × (xs ≡ ys)
spelling_begins_one m n xs ys e = same_start m m n xs ys (omega arith) e

pub length-spelling-one : (n : ℕ) → n < 128 → length (spelling n) ≡ 1
length-spelling-one n h = ap length (spelling_one n h)

pub length-spelling-more : (n : ℕ) → 128 ≤ n → length (spelling n) ≡ length (spelling (n / 128)) + 1
length-spelling-more n h = ap length (spelling_more n h) ∙ omega arith

-- one group more was written
pub one_group : (groups : List ℕ) (len left : ℕ) (all : List ℕ) → len < length groups → 128 ≤ left → take len groups ++ spelling left ≡ all
    → take (len + 1) (set groups len (left % 128 + 128)) ++ spelling (left / 128) ≡ all
one_group groups len left all room large is =
    rw (take_more_set groups len (left % 128 + 128) room, append_assoc) (ap (λ (s : List ℕ). take len groups ++ s) (sym (spelling_more left large)) ∙ is)

-- the last group was written
pub one_group_last : (groups : List ℕ) (len left : ℕ) (all : List ℕ) → len < length groups → left < 128 → take len groups ++ spelling left ≡ all
    → take (len + 1) (set groups len left) ≡ all
one_group_last groups len left all room small is =
    rw (take_more_set groups len left room) (ap (λ (s : List ℕ). take len groups ++ s) (sym (spelling_one left small)) ∙ is)
