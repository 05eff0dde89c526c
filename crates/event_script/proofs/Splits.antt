-- Where a byte parts a list.
use Rattle.std.proofs.Common.{◌≡◌, ◌≢◌, ◌+◌, ℕ, zero, suc, Bool, true, false, ◌&&◌, List, [], ◌∷◌, ◌++◌, length, take, get_or, subst, ◌≤◌, refl, sym, ap, ◌∙◌, arith}
use Rattle.std.proofs.lemmas.List.{get_or_at, length-append}
use Rattle.std.specs.List.{list_all}
use Rattle.event_script.specs.Grammar.{Lacks}
use Rattle.event_script.specs.Lanes.{IsStretchOf}
use Rattle.event_script.specs.FirstLine.{IsPart, IsNoPart}
use Rattle.stat_defs.specs.Names.{IsLabel, IsLocalName, is_label_byte, is_name_byte}

pub lacks_rest : (byte x : ℕ) (xs : List ℕ) → Lacks byte (x ∷ xs) → Lacks byte xs
lacks_rest byte x xs h = λ k lt. h (suc k) (omega arith)

pub lacks_first : (byte x : ℕ) (xs : List ℕ) → Lacks byte (x ∷ xs) → x ≢ byte
lacks_first byte x xs h = h 0 (omega arith)

-- the byte parts a list in one way
pub one_split : (byte : ℕ) (a b x y : List ℕ) → Lacks byte a → Lacks byte x → a ++ byte ∷ b ≡ x ++ byte ∷ y → (a ≡ x) × (b ≡ y)
one_split byte [] b [] y la lx e = (refl, cc)
one_split byte [] b (c ∷ x) y la lx e = let same : byte ≡ c = cc in absurd (lacks_first byte c x lx (sym same))
one_split byte (c ∷ a) b [] y la lx e = let same : c ≡ byte = cc in absurd (lacks_first byte c a la same)
one_split byte (c ∷ a) b (d ∷ x) y la lx e =
    let heads : c ≡ d = cc in
    let tails : a ++ byte ∷ b ≡ x ++ byte ∷ y = cc in
    let both = one_split byte a b x y (lacks_rest byte c a la) (lacks_rest byte d x lx) tails in
    let front : a ≡ x = both.0 in
    (cc, both.1)

pub and_true : (a b : Bool) → (a && b) ≡ true → (a ≡ true) × (b ≡ true)
and_true true b h = (refl, h)
and_true false b h = cc

pub lacks_cons : (byte x : ℕ) (xs : List ℕ) → x ≢ byte → Lacks byte xs → Lacks byte (x ∷ xs)
lacks_cons byte x xs apart lacks zero lt = apart
lacks_cons byte x xs apart lacks (suc k) lt = lacks k (omega arith)

-- a list of bytes that pass a test lacks each byte that doesn't
pub lacks_all : (p : ℕ → Bool) (byte : ℕ) (xs : List ℕ) → p byte ≡ false → list_all p xs ≡ true → Lacks byte xs
lacks_all p byte [] not h = λ k lt. absurd (omega arith)
lacks_all p byte (x ∷ xs) not h =
    let both = and_true (p x) (list_all p xs) h in
    let passes : p x ≡ true = both.0 in
    lacks_cons byte x xs (λ same. let same' : p x ≡ p byte = ap p same in cc) (lacks_all p byte xs not both.1)

pub label_lacks : (label : List ℕ) → IsLabel label → Lacks 32 label
label_lacks label h = lacks_all is_label_byte 32 label refl h.bytes

pub name_lacks : (name : List ℕ) → IsLocalName name → Lacks 32 name
name_lacks name h = lacks_all is_name_byte 32 name refl h.bytes

-- the run of bytes that pass a test before one that doesn't
run_is : (test : ℕ → Bool) (byte : ℕ) → test byte ≡ false → (part rest : List ℕ) → list_all test part ≡ true → (count : ℕ) → IsStretchOf test (part ++ byte ∷ rest) count → count ≡ length part
run_is test byte not [] rest all zero run = refl
run_is test byte not [] rest all (suc k) run = let passes = (and_true (test byte) (list_all test (take k rest)) run.pass).0 in absurd cc
run_is test byte not (x ∷ part) rest all zero run = let fails = run.longest (omega arith) in let passes = (and_true (test x) (list_all test part) all).0 in absurd cc
run_is test byte not (x ∷ part) rest all (suc k) run =
    let tail : IsStretchOf test (part ++ byte ∷ rest) k = record {
      within = omega (arith, run.within);
      pass = (and_true (test x) (list_all test (take k (part ++ byte ∷ rest))) run.pass).1;
      longest = λ more. run.longest (omega (arith, more));
    } in
    let same = run_is test byte not part rest (and_true (test x) (list_all test part) all).1 k tail in omega (arith, same)

module _ (test : ℕ → Bool) (not : test 32 ≡ false) (text : List ℕ) (count most : ℕ) (run : IsStretchOf test text count) where
  pub no_part : IsNoPart text count most → (part rest : List ℕ) → 1 ≤ length part → length part ≤ most → list_all test part ≡ true → text ≡ part ++ 32 ∷ rest → ⊥
  no_part none part rest some few all is =
      let e : count ≡ length part = run_is test 32 not part rest all count (subst (λ (l : List ℕ). IsStretchOf test l count) is run) in
      let long : length text ≡ length part + length (32 ∷ rest) = ap length is ∙ length-append part (32 ∷ rest) in
      none (omega arith) (omega arith) (omega arith) (ap (λ l. get_or l count 0) is ∙ get_or_at part 32 rest 0 count (sym e))

  pub part_passes : (part rest : List ℕ) → IsPart text count most part rest → list_all test part ≡ true
  part_passes part rest is = subst (λ (l : List ℕ). list_all test l ≡ true) (sym is.first) run.pass
