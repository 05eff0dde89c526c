-- The place of a bin in the table, and the bin at a place.
use Rattle.std.proofs.Common.{◌≡◌, ◌≢◌, ℕ, suc, zero, ℤ, pos, negsuc, ◌+◌, ◌-◌, ◌*◌, ◌/◌, ◌%◌, ◌<◌, ◌≤◌, Bool, true, ◌&&◌, eqb, leb, refl, sym, ap, ◌∙◌, arith, ◌⊎◌, inl, inr}
use Rattle.std.proofs.lemmas.Bool.{and_parts, and_from, eqb-true, eq-eqb, leb-true, lt-ltb, le-ltb, false≢true}
use Rattle.std.proofs.lemmas.Bool.Decides.{Decides-int_eq}
use Rattle.std.proofs.lemmas.Nat.{div-mul-add, mod-mul-add}
use Rattle.stat_defs.specs.declared.bins.Bin.{Bin}
use Rattle.loglinear_bins.specs.Bins.{steps, is_lawful, is_lawful_at, is_same}
use Rattle.loglinear_bins.specs.Table.{place_at, place_of, bin_at}

pub is_same-refl : (bin : Bin) → is_same bin bin ≡ true
is_same-refl bin = and_from _ _ (eq-eqb bin.val bin.val refl) ((Decides-int_eq bin.exp bin.exp).1 refl)

pub is_same-true : (one other : Bin) → is_same one other ≡ true → one ≡ other
is_same-true one other same =
    let parts = and_parts _ _ same in
    let vals : one.val ≡ other.val = eqb-true _ _ parts.0 in
    let exps : one.exp ≡ other.exp = (Decides-int_eq one.exp other.exp).0 parts.1 in
    ap (λ (n : ℕ). record { val = n; exp = one.exp }) vals ∙ ap (λ (z : ℤ). record { val = other.val; exp = z }) exps

-- the first ten places
pub bin_at-first : (k : ℕ) → k < 10 → bin_at k ≡ record { val = 10 * k; exp = pos 0 }
unfolding bin_at
bin_at-first k small = rw (lt-ltb k 10 small) refl

-- the places after them, in rows of ninety
pub bin_at-later : (k : ℕ) → 10 ≤ k → bin_at k ≡ record { val = (k - 10) % 90 + 10; exp = pos ((k - 10) / 90 + 1) }
unfolding bin_at
bin_at-later k large = rw (le-ltb k 10 large) refl

pub bin_at-row : (k q r : ℕ) → r < 90 → k ≡ q * 90 + r + 10 → bin_at k ≡ record { val = r + 10; exp = pos (q + 1) }
bin_at-row k q r small is =
    let over : k - 10 ≡ q * 90 + r = omega arith in
    bin_at-later k (omega arith) ∙ rw (over, div-mul-add q 90 r small, mod-mul-add q 90 r small) refl

-- a lawful bin at the least exponent
pub record First (bin : Bin) : Type 0 where
  pub digit : ℕ
  pub small : digit < 10
  pub is : bin ≡ record { val = 10 * digit; exp = pos 0 }

-- a lawful bin above it
pub record Later (bin : Bin) : Type 0 where
  pub row : ℕ
  pub exp : bin.exp ≡ pos (suc row)
  pub low : 10 ≤ bin.val
  pub high : bin.val ≤ 99

first-from : (val : ℕ) → (eqb (val % 10) 0 && leb val 90) ≡ true → First (record { val = val; exp = pos 0 })
first-from val holds =
    let parts = and_parts _ _ holds in
    let whole : val % 10 ≡ 0 = eqb-true _ _ parts.0 in
    let most : val ≤ 90 = leb-true _ _ parts.1 in
    let tens : val ≡ 10 * (val / 10) = omega arith in
    record { digit = val / 10; small = omega arith; is = ap (λ (n : ℕ). record { val = n; exp = pos 0 }) tens }

later-from : (val e : ℕ) (rest : Bool) → (leb 10 val && leb val 99 && rest) ≡ true → Later (record { val = val; exp = pos (suc e) })
later-from val e rest holds =
    let ends = and_parts _ _ (and_parts _ _ holds).0 in
    record { row = e; exp = refl; low = leb-true _ _ ends.0; high = leb-true _ _ ends.1 }

cases-at : (val : ℕ) (exp : ℤ) → is_lawful_at val exp ≡ true → First (record { val = val; exp = exp }) ⊎ Later (record { val = val; exp = exp })
cases-at val (pos zero) holds = inl (first-from val holds)
cases-at val (pos (suc e)) holds = inr (later-from val e _ holds)
cases-at val (negsuc e) holds = absurd (false≢true holds)

-- a lawful bin is one or the other
lawful_cases : (bin : Bin) → is_lawful bin ≡ true → First bin ⊎ Later bin
lawful_cases bin holds = cases-at bin.val bin.exp holds

place_of-first : (val : ℕ) → place_of (record { val = val; exp = pos 0 }) ≡ val / 10
unfolding place_of
place_of-first val = refl

place_of-later : (val row : ℕ) → place_of (record { val = val; exp = pos (suc row) }) ≡ 90 * row + val
unfolding place_of
place_of-later val row = refl

-- the place of a bin at the least exponent, and of any other one
pub place_of-least : (bin : Bin) → steps bin.exp ≡ 0 → bin.val / 10 ≡ place_of bin
unfolding place_of
place_of-least bin none = at bin.val (steps bin.exp) none
  where
    at : (val e : ℕ) → e ≡ 0 → val / 10 ≡ place_at val e
    at val zero none = refl
    at val (suc row) none = absurd (omega arith)

pub place_of-above : (bin : Bin) → steps bin.exp ≢ 0 → 90 * steps bin.exp + bin.val - 90 ≡ place_of bin
unfolding place_of
place_of-above bin some = at bin.val (steps bin.exp) some
  where
    at : (val e : ℕ) → e ≢ 0 → 90 * e + val - 90 ≡ place_at val e
    at val zero some = absurd (some refl)
    at val (suc row) some = omega arith

-- the law of places: a lawful bin stands at its place
pub bin_at-place_of : (bin : Bin) → is_lawful bin ≡ true → bin_at (place_of bin) ≡ bin
bin_at-place_of bin holds = elim (lawful_cases bin holds) [
  | inl f ↦ at_first bin f
  | inr l ↦ at_later bin l
]
  where
    at_first : (bin : Bin) → First bin → bin_at (place_of bin) ≡ bin
    at_first bin f = rw f.is (let tens : 10 * f.digit / 10 ≡ f.digit = omega arith in rw (place_of-first (10 * f.digit), tens) (bin_at-first f.digit f.small))

    at_later : (bin : Bin) → Later bin → bin_at (place_of bin) ≡ bin
    at_later bin l =
        let is : bin ≡ record { val = bin.val; exp = pos (suc l.row) } = ap (λ (z : ℤ). record { val = bin.val; exp = z }) l.exp in
        let place : place_of bin ≡ l.row * 90 + (bin.val - 10) + 10 = ap place_of is ∙ (place_of-later bin.val l.row ∙ omega (arith, l.low)) in
        bin_at-row (place_of bin) l.row (bin.val - 10) (omega (arith, l.low, l.high)) place ∙ (ap (λ (n : ℕ). record { val = n; exp = pos (l.row + 1) }) (omega (arith, l.low)) ∙ (ap (λ (n : ℕ). record { val = bin.val; exp = pos n }) (omega arith) ∙ sym is))
