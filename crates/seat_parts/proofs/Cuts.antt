-- Splits and joins keep each sum over all parts and each fact of all parts, and a step of a seat changes its own part alone.
use Rattle.std.proofs.Common.{◌≡◌, ℕ, ◌+◌, ◌*◌, ◌<◌, ◌≤◌, List, [], ◌∷◌, ◌++◌, length, set, sym, refl, ap, ◌∙◌, arith, All, le_refl}
use Rattle.std.proofs.lemmas.List.Elements.{All-nil, All-cons, All-head, All-tail, All-append, All-set}
use mathlib.Core.Option.{some}
use lib.ListN.{get_elem?}
use Rattle.atomic_table.specs.Table.{Me}
use Rattle.atomic_table.proofs.Lists.{set_else}
use Rattle.seat_parts.specs.declared.Parts.{Parts}
use Rattle.seat_parts.specs.Parts.{total, parts_total, AllParts, led_by, first_or, first_of, others_of, first_changed, own_changed, dealt, undealt, joined, spent}
use Rattle.seat_parts.proofs.Sums.{total-append, total-set, total-bound, total-none, total-one, term-le, all-at, all-mapped, all-in, all-beside}

module _ {P : Type 0} where
  first-others-total : (f : P → ℕ) (ps : List P) → total f (first_of ps) + total f (others_of ps) ≡ total f ps
  first-others-total f [] = refl
  first-others-total f (p ∷ ps) = omega arith

  first-all : (F : P → Type 0) (ps : List P) → All F ps → All F (first_of ps)
  first-all F [] e = e
  first-all F (p ∷ ps) e = All-cons F p [] (All-head F p ps e) (All-nil F)

  others-all : (F : P → Type 0) (ps : List P) → All F ps → All F (others_of ps)
  others-all F [] e = e
  others-all F (p ∷ ps) e = All-tail F p ps e

  pub split-total : (f : P → ℕ) (views : List (Parts P)) (id : ℕ) (v : Parts P) → get_elem? views id ≡ some v → parts_total f (set views id (undealt v) ++ dealt v ∷ []) ≡ parts_total f views
  split-total f views id v at = let h : Parts P → ℕ = λ z. total f z.parts in let a = total-append h (set views id (undealt v)) (dealt v ∷ []) in let b = total-set h views id v (undealt v) at in let c = first-others-total f v.parts in omega arith

  pub split-all : (F : P → Type 0) (views : List (Parts P)) (id : ℕ) (v : Parts P) → get_elem? views id ≡ some v → AllParts F views → AllParts F (set views id (undealt v) ++ dealt v ∷ [])
  split-all F views id v at e = let Q : Parts P → Type 0 = λ z. All F z.parts in let own = all-at Q views id v e at in
      All-append Q (set views id (undealt v)) (dealt v ∷ []) (All-set Q views id (undealt v) (others-all F v.parts own) e) (All-cons Q (dealt v) [] (first-all F v.parts own) (All-nil Q))

  pub join-total : (f : P → ℕ) (views : List (Parts P)) (id other : ℕ) (v w : Parts P) → get_elem? views id ≡ some v → get_elem? (set views id (joined v w)) other ≡ some w → parts_total f (set (set views id (joined v w)) other spent) ≡ parts_total f views
  join-total f views id other v w at at' = let h : Parts P → ℕ = λ z. total f z.parts in let a = total-set h views id v (joined v w) at in let b = total-set h (set views id (joined v w)) other w spent at' in let c = total-append f v.parts w.parts in omega arith

  pub join-all : (F : P → Type 0) (views : List (Parts P)) (id other : ℕ) (v w : Parts P) → get_elem? views id ≡ some v → ¬ (other ≡ id) → get_elem? (set views id (joined v w)) other ≡ some w → AllParts F views → AllParts F (set (set views id (joined v w)) other spent)
  join-all F views id other v w at ne at' e = let Q : Parts P → Type 0 = λ z. All F z.parts in let ev = all-at Q views id v e at in
      let ew : All F w.parts = all-at Q views other w e (sym (set_else views id other (joined v w) ne) ∙ at') in
      All-set Q (set views id (joined v w)) other spent (All-nil F) (All-set Q views id (joined v w) (All-append F v.parts w.parts ev ew) e)

  -- a step of a seat changes its own part
  pub step-total : (f : P → ℕ) (views : List (Parts P)) (id : ℕ) (p q : P) (ps : List P) → get_elem? views id ≡ some (led_by p ps) → parts_total f (set views id (led_by q ps)) + f p ≡ parts_total f views + f q
  step-total f views id p q ps at = let t = total-set (λ (z : Parts P). total f z.parts) views id (led_by p ps) (led_by q ps) at in omega arith

  pub step-all : (F G : P → Type 0) → ((p : P) → F p → G p) → (views : List (Parts P)) (id : ℕ) (p q : P) (ps : List P) → get_elem? views id ≡ some (led_by p ps) → AllParts F views → G q → AllParts G (set views id (led_by q ps))
  step-all F G up views id p q ps at e g = let Q : Parts P → Type 0 = λ z. All F z.parts in let R : Parts P → Type 0 = λ z. All G z.parts in
      let own = all-mapped F G up (p ∷ ps) (all-at Q views id (led_by p ps) e at) in
      All-set R views id (led_by q ps) (All-cons G q ps g (All-tail G p ps own)) (all-mapped Q R (λ z. all-mapped F G up z.parts) views e)

  -- what each other part keeps, which is beside the part q in each sum
  pub step-beside : (F G : P → Type 0) (views : List (Parts P)) (id : ℕ) (p q : P) (ps : List P) → get_elem? views id ≡ some (led_by p ps)
      → ((x : P) → F x → ((f : P → ℕ) → f q + f x ≤ parts_total f (set views id (led_by q ps))) → G x) → AllParts F views → G q → AllParts G (set views id (led_by q ps))
  step-beside F G views id p q ps at up e g =
      let Q : Parts P → Type 0 = λ z. All F z.parts in let views' : List (Parts P) = set views id (led_by q ps) in
      let own : All F (p ∷ ps) = all-at Q views id (led_by p ps) e at in
      let behind : (f : P → ℕ) → f q + total f ps ≤ parts_total f views' = λ f. let t = step-total f views id p q ps at in let b = term-le (λ (z : Parts P). total f z.parts) views id (led_by p ps) at in omega arith in
      all-beside Q (λ (z : Parts P). All G z.parts) (λ h. total h views') views id (led_by p ps) (led_by q ps)
      (λ v ev h. all-in F G v.parts (λ x fx le. up x fx (λ w. let a = le w in let b = h (λ (z : Parts P). total w z.parts) in omega arith)) ev) at (λ h. le_refl _) e
      (All-cons G q ps g (all-in F G ps (λ x fx le. up x fx (λ w. let a = le w in let b = behind w in omega arith)) (All-tail F p ps own)))

  pub parts-mapped : (F G : P → Type 0) → ((p : P) → F p → G p) → (views : List (Parts P)) → AllParts F views → AllParts G views
  parts-mapped F G up views e = all-mapped (λ (z : Parts P). All F z.parts) (λ (z : Parts P). All G z.parts) (λ z. all-mapped F G up z.parts) views e

  pub own-fits : (F : P → Type 0) (views : List (Parts P)) (id : ℕ) (p : P) (ps : List P) → get_elem? views id ≡ some (led_by p ps) → AllParts F views → F p
  own-fits F views id p ps at e = All-head F p ps (all-at (λ (z : Parts P). All F z.parts) views id (led_by p ps) e at)

  -- a sum whose terms are at most b times those of a weight
  pub parts_total-bound : (f weight : P → ℕ) (b : ℕ) (F : P → Type 0) → ((p : P) → F p → f p ≤ weight p * b) → (views : List (Parts P)) → AllParts F views → parts_total f views ≤ parts_total weight views * b
  parts_total-bound f weight b F each views e = total-bound (λ (z : Parts P). total f z.parts) (λ (z : Parts P). total weight z.parts) b (λ (z : Parts P). All F z.parts) (λ z. total-bound f weight b F each z.parts) views e

  -- one view with all parts of a weight has all of each sum to which the others add nothing
  pub one-view : (f weight : P → ℕ) (F : P → Type 0) → ((p : P) → F p → weight p ≡ 0 → f p ≡ 0) → (views : List (Parts P)) → AllParts F views → (id : ℕ) (v : Parts P) → get_elem? views id ≡ some v → parts_total weight views ≤ total weight v.parts → parts_total f views ≡ total f v.parts
  one-view f weight F each views e id v at le = total-one (λ (z : Parts P). total f z.parts) (λ (z : Parts P). total weight z.parts) (λ (z : Parts P). All F z.parts) (λ z. total-none f weight F each z.parts) views e id v at le

pub no-slots : {S : Type 0} (c : List (ℕ × S)) → length c ≡ 0 → c ≡ []
no-slots [] e = refl
no-slots (x ∷ xs) e = absurd (omega arith)

-- what a step leaves that changes the own part
changed-parts : {P : Type 0} (f : P → P) (blank : P) (ps : List P) → 0 < length ps
    → (length (first_changed f ps) ≡ length ps) × (first_or blank (first_changed f ps) ≡ f (first_or blank ps)) × (others_of (first_changed f ps) ≡ others_of ps)
changed-parts f blank [] a = absurd (omega arith)
changed-parts f blank (p ∷ ps) a = (refl, refl, refl)

-- a seat with a part of its own that holds no slot
module _ {S P : Type 0} where
  me_of : List P → List (ℕ × S) → Me S (Parts P)
  me_of ps c = (record { parts = ps }, c)

  led-lists : (ps : List P) (c : List (ℕ × S)) → 0 < length ps → length c ≡ 0 → (p : P) × (qs : List P) × (me_of ps c ≡ me_of (p ∷ qs) [])
  led-lists (p ∷ ps) [] a b = (p, ps, refl)
  led-lists [] c a b = absurd (omega arith)
  led-lists (p ∷ ps) (x ∷ xs) a b = absurd (omega arith)

  pub led : (m : Me S (Parts P)) → 0 < length m.0.parts → length m.1 ≡ 0 → (p : P) × (ps : List P) × (m ≡ (led_by p ps, []))
  unfolding me_of
  led m a b = led-lists m.0.parts m.1 a b

  alone-lists : (ps : List P) (c : List (ℕ × S)) → length ps ≡ 1 → length c ≡ 0 → (p : P) × (me_of ps c ≡ me_of (p ∷ []) [])
  alone-lists [] c a b = absurd (omega arith)
  alone-lists (p ∷ []) [] a b = (p, refl)
  alone-lists (p ∷ []) (x ∷ xs) a b = absurd (omega arith)
  alone-lists (p ∷ q ∷ ps) c a b = absurd (omega arith)

  pub led-alone : (m : Me S (Parts P)) → length m.0.parts ≡ 1 → length m.1 ≡ 0 → (p : P) × (m ≡ (led_by p [], []))
  unfolding me_of
  led-alone m a b = alone-lists m.0.parts m.1 a b

  pub after-own : (f : P → P) (blank : P) (m m' : Me S (Parts P)) → 0 < length m.0.parts → m' ≡ (own_changed f m.0, m.1)
      → (length m'.0.parts ≡ length m.0.parts) × (first_or blank m'.0.parts ≡ f (first_or blank m.0.parts)) × (others_of m'.0.parts ≡ others_of m.0.parts) × (length m'.1 ≡ length m.1)
  after-own f blank m m' a e = let c = changed-parts f blank m.0.parts a in
      (ap (λ z. length z.0.parts) e ∙ c.0, ap (λ z. first_or blank z.0.parts) e ∙ c.1, ap (λ z. others_of z.0.parts) e ∙ c.2, ap (λ z. length z.1) e)

-- the parts of a view that has one
pub one-part : {P : Type 0} (blank : P) (ps : List P) → length ps ≡ 1 → ps ≡ first_or blank ps ∷ []
one-part blank [] e = absurd (omega arith)
one-part blank (p ∷ []) e = refl
one-part blank (p ∷ q ∷ ps) e = absurd (omega arith)
