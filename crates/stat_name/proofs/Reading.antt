-- What is known while a number is read.
use Rattle.std.proofs.Common.{◌≡◌, ℕ, ◌+◌, ◌-◌, ◌*◌, ◌/◌, ◌%◌, ◌^◌, ◌<◌, ◌≤◌, ◌⊎◌, List, ◌∷◌, ◌++◌, length, refl, ap, sym, ◌∙◌, subst, arith, take, drop, get_or, append_assoc, inl, inr, add-one, drop-cons, length-drop}
use Rattle.std.proofs.Math.Nat.{pow-suc, mul-le-mul_left}
use Rattle.std.proofs.Math.ListN.{length-take}
use Rattle.std.proofs.lemmas.Bool.{cases_lt}
use Rattle.std.proofs.lemmas.List.{take_more, take-append-drop}
use Rattle.stat_name.specs.Spelling.{spelling, BeginsWith}
use Rattle.stat_name.proofs.Spellings.{spelling_one, spelling_more, spelling_first}

regroup : (sum scale low m : ℕ) → sum + scale * low + scale * 128 * m ≡ sum + scale * (low + 128 * m)
regroup sum scale low m = omega arith

-- a group and what comes above it
spelling_up : (g m : ℕ) → 128 ≤ g → g < 256 → 0 < m → spelling ((g - 128) + 128 * m) ≡ g ∷ spelling m
spelling_up g m large byte pos =
    let up : ((g - 128) + 128 * m) / 128 ≡ m = omega arith in
    let low : ((g - 128) + 128 * m) % 128 + 128 ≡ g = omega arith in
    let above : 128 ≤ (g - 128) + 128 * m = omega arith in
    spelling_more ((g - 128) + 128 * m) above ∙ rw (up, low) refl

-- the first i bytes are full groups of the sum, and the number goes on
pub record ReadSoFar (bytes : List ℕ) (i sum scale : ℕ) : Type 0 where
  pub groups : i ≤ 5
  pub within : i ≤ length bytes
  pub scale_is : scale ≡ 128 ^ i
  pub below : sum < scale
  -- what the rest spells is the number's upper part
  pub spelled : (m : ℕ) → (i ≡ 0) ⊎ (0 < m) → spelling (sum + scale * m) ≡ take i bytes ++ spelling m
  -- every number that the bytes begin with has such an upper part
  pub only : (n : ℕ) → BeginsWith bytes n → (m : ℕ) × ((i ≡ 0) ⊎ (0 < m)) × (n ≡ sum + scale * m) × (rest : List ℕ) × (drop i bytes ≡ spelling m ++ rest)

pub none_read : (bytes : List ℕ) → ReadSoFar bytes 0 0 1
none_read bytes = record {
  groups = omega arith;
  within = omega arith;
  scale_is = refl;
  below = omega arith;
  spelled = λ m h. ap spelling (omega arith);
  only = λ n b. (n, inl refl, omega arith, b.rest, b.bytes_are);
}

cons_parts : (a b : ℕ) (xs ys : List ℕ) → a ∷ xs ≡ b ∷ ys → (a ≡ b) × (xs ≡ ys)
cons_parts a b xs ys e = (cc, cc)

drop_here : (bytes : List ℕ) (i g : ℕ) → i < length bytes → get_or bytes i 0 ≡ g → drop i bytes ≡ g ∷ drop (i + 1) bytes
drop_here bytes i g h e = rw (add-one, drop-cons bytes i 0, e) refl

-- what a spelling that begins with a last group spells
last_group : (m g : ℕ) (rest tail : List ℕ) → g < 128 → g ∷ tail ≡ spelling m ++ rest → m ≡ g
last_group m g rest tail small e =
    elim (cases_lt m 128) [
      | inl below ↦ let e' : g ∷ tail ≡ m ∷ rest = rw (spelling_one m below) at e in sym (cons_parts g m tail rest e').0
      | inr above ↦
          let e' : g ∷ tail ≡ (m % 128 + 128) ∷ (spelling (m / 128) ++ rest) = rw (spelling_more m above) at e in
          let same = (cons_parts g (m % 128 + 128) tail (spelling (m / 128) ++ rest) e').0 in
          absurd (omega arith)
    ]

-- what a spelling that begins with another group spells
full_group : (m g : ℕ) (rest tail : List ℕ) → 128 ≤ g → g ∷ tail ≡ spelling m ++ rest → (m ≡ (g - 128) + 128 * (m / 128)) × (0 < m / 128) × (tail ≡ spelling (m / 128) ++ rest)
full_group m g rest tail large e =
    elim (cases_lt m 128) [
      | inl below ↦
          let e' : g ∷ tail ≡ m ∷ rest = rw (spelling_one m below) at e in
          let same = (cons_parts g m tail rest e').0 in
          absurd (omega arith)
      | inr above ↦
          let e' : g ∷ tail ≡ (m % 128 + 128) ∷ (spelling (m / 128) ++ rest) = rw (spelling_more m above) at e in
          let same = cons_parts g (m % 128 + 128) tail (spelling (m / 128) ++ rest) e' in
          (omega (arith, same.0), omega arith, same.1)
    ]

module _ (bytes : List ℕ) (i sum scale : ℕ) (r : ReadSoFar bytes i sum scale) where
  pub five_read : i ≡ 5 → (n : ℕ) → BeginsWith bytes n → ⊥
  five_read five n b =
      let o = r.only n b in
      let e : scale ≡ 34359738368 = r.scale_is ∙ ap (λ (k : ℕ). 128 ^ k) five in
      let large : n ≡ sum + 34359738368 * o.0 = o.2 ∙ ap (λ (s : ℕ). sum + s * o.0) e in
      let small = b.small in
      elim o.1 [ inl z ↦ absurd (omega arith) | inr pos ↦ absurd (omega arith) ]

  pub all_read : length bytes ≤ i → (n : ℕ) → BeginsWith bytes n → ⊥
  all_read end n b =
      let o = r.only n b in
      let first = spelling_first o.0 in
      let e : drop i bytes ≡ first.0 ∷ (first.1 ++ o.3) = o.4 ∙ ap (λ (s : List ℕ). s ++ o.3) first.2 in
      let len = ap length e in
      absurd (omega (arith, simp length-drop at len))

  module _ (g : ℕ) (here : i < length bytes) (is : get_or bytes i 0 ≡ g) where
    pub only_last : g < 128 → (n : ℕ) → BeginsWith bytes n → ((i ≡ 0) ⊎ (0 < g)) × (n ≡ sum + scale * g)
    only_last small n b =
        let o = r.only n b in
        let m_is : o.0 ≡ g = last_group o.0 g o.3 (drop (i + 1) bytes) small (sym (drop_here bytes i g here is) ∙ o.4) in
        (subst (λ (m : ℕ). (i ≡ 0) ⊎ (0 < m)) m_is o.1, o.2 ∙ ap (λ (m : ℕ). sum + scale * m) m_is)

    spelled_last : g < 128 → (i ≡ 0) ⊎ (0 < g) → spelling (sum + scale * g) ≡ take (i + 1) bytes
    spelled_last small some =
        r.spelled g some ∙ (rw (spelling_one g small, take_more bytes i 0 here, is) refl)

    pub last_read : g < 128 → (i ≡ 0) ⊎ (0 < g) → sum + scale * g < 2 ^ 32 → BeginsWith bytes (sum + scale * g)
    last_read small some fits = record {
      small = fits;
      rest = drop (i + 1) bytes;
      bytes_are = rw (spelled_last small some) (sym (take-append-drop (i + 1) bytes));
    }

    pub length_read : g < 128 → (i ≡ 0) ⊎ (0 < g) → i + 1 ≡ length (spelling (sum + scale * g))
    length_read small some = rw (spelled_last small some) (simp length-take (omega arith))

    pub one_more : 128 ≤ g → g < 256 → i < 5 → ReadSoFar bytes (i + 1) (sum + scale * (g - 128)) (scale * 128)
    one_more large byte few = record {
      groups = omega arith;
      within = omega arith;
      scale_is = ap (λ (s : ℕ). s * 128) r.scale_is ∙ rw add-one (sym (pow-suc 128 i));
      below = omega (arith, r.below, mul-le-mul_left scale (let le : g - 128 ≤ 127 = omega arith in le));
      spelled = λ m some.
          let pos : 0 < m = elim some [ inl z ↦ absurd (omega arith) | inr p ↦ p ] in
          let up : (g - 128) + 128 * m ≡ (g - 128) + 128 * m = refl in
          let e : spelling (sum + scale * ((g - 128) + 128 * m)) ≡ take i bytes ++ spelling ((g - 128) + 128 * m) = r.spelled ((g - 128) + 128 * m) (inr (omega arith)) in
          let s : spelling ((g - 128) + 128 * m) ≡ g ∷ spelling m = spelling_up g m large byte pos in
          ap spelling (regroup sum scale (g - 128) m) ∙ (e ∙ rw (s, take_more bytes i 0 here, is, append_assoc) refl);
      only = λ n b.
          let o = r.only n b in
          let f = full_group o.0 g o.3 (drop (i + 1) bytes) large (sym (drop_here bytes i g here is) ∙ o.4) in
          (o.0 / 128, inr f.1, o.2 ∙ (ap (λ (m : ℕ). sum + scale * m) f.0 ∙ sym (regroup sum scale (g - 128) (o.0 / 128))), o.3, f.2);
    }
