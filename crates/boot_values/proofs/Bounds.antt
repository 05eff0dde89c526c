-- Bounds that rise, with one more put among them.
use Rattle.std.proofs.Common.{◌≡◌, ◌≢◌, ℕ, zero, suc, ◌+◌, ◌<◌, Bool, true, false, cond, ◌==◌, List, [], ◌∷◌, length, map, take, drop, get_or, refl, ap, ◌∙◌, arith}
use Rattle.std.specs.Prelude.{nat_lt, All}
use Rattle.std.specs.List.{list_any, count_by, insert}
use Rattle.std.specs.List.Sorted.{IsStrictlyIncreasing}
use Rattle.std.proofs.lemmas.Bool.{ltb-true, ltb-false, le-ltb, eqb-false, or_parts}
use Rattle.std.proofs.lemmas.List.Sums.{sum_by-cons}
use Rattle.std.proofs.lemmas.List.Elements.{All-append, All-cons, All-take, All-drop}
use Rattle.stat_defs.specs.declared.bins.Bound.{Bound}
use Rattle.boot_values.specs.BucketSettings.{with_bound}

abbrev pub Above : ℕ → List Bound → Type 0
Above h [] = Unit {0}
Above h (c ∷ cs) = (h < c.halves) × Above h cs

abbrev pub Rises : List Bound → Type 0
Rises [] = Unit {0}
Rises (c ∷ cs) = Above c.halves cs × Rises cs

-- how many of these bounds are below
abbrev below : List Bound → ℕ → ℕ
below cs h = count_by (λ c. nat_lt c.halves h) cs

above_more : (m h : ℕ) (cs : List Bound) → m < h → Above h cs → Above m cs
above_more m h [] lt a = tt
above_more m h (c ∷ cs) lt a = (omega arith, above_more m h cs lt a.1)

counted : (c : Bound) (cs : List Bound) (h : ℕ) (b : Bool) → nat_lt c.halves h ≡ b → below (c ∷ cs) h ≡ cond b 1 0 + below cs h
counted c cs h b e = sum_by-cons (λ x. cond (nat_lt x.halves h) 1 0) c cs ∙ ap (λ t. cond t 1 0 + below cs h) e

none_below : (h : ℕ) (cs : List Bound) → Above h cs → below cs h ≡ 0
none_below h [] a = refl
none_below h (c ∷ cs) a =
    let later = none_below h cs a.1 in
    let first = counted c cs h false (le-ltb c.halves h (omega arith)) in
    omega arith

above_with : (m : ℕ) (cs : List Bound) (k : ℕ) (b : Bound) → m < b.halves → Above m cs → Above m (insert cs k b)
above_with m cs zero b lt a = (lt, a)
above_with m [] (suc k) b lt a = (lt, tt)
above_with m (c ∷ cs) (suc k) b lt a = (a.0, above_with m cs k b lt a.1)

rises_behind : (c : Bound) (cs : List Bound) (k n : ℕ) (b : Bound) → n ≡ suc k → c.halves < b.halves
    → Above c.halves cs → Rises (insert cs k b) → Rises (insert (c ∷ cs) n b)
rises_behind c cs k n b e lt a r = rw e (above_with c.halves cs k b lt a, r)

rises_before : (c : Bound) (cs : List Bound) (n : ℕ) (b : Bound) → n ≡ 0 → b.halves < c.halves
    → Rises (c ∷ cs) → Rises (insert (c ∷ cs) n b)
rises_before c cs n b e lt r = rw e ((lt, above_more b.halves c.halves cs lt r.0), r)

rises_by : (c : Bound) (cs : List Bound) (b : Bound) (t : Bool) → nat_lt c.halves b.halves ≡ t → c.halves ≢ b.halves
    → Rises (c ∷ cs) → Rises (with_bound cs b) → Rises (with_bound (c ∷ cs) b)
rises_by c cs b true e ne r later =
    let n = counted c cs b.halves true e in
    rises_behind c cs (below cs b.halves) (below (c ∷ cs) b.halves) b (omega arith) (ltb-true c.halves b.halves e) r.0 later
rises_by c cs b false e ne r later =
    let le = ltb-false c.halves b.halves e in
    let lt : b.halves < c.halves = omega arith in
    let n = counted c cs b.halves false e in
    let none = none_below b.halves cs (above_more b.halves c.halves cs lt r.0) in
    rises_before c cs (below (c ∷ cs) b.halves) b (omega arith) lt r

pub rises_with : (cs : List Bound) (b : Bound) → list_any (λ c. c.halves == b.halves) cs ≡ false → Rises cs → Rises (with_bound cs b)
rises_with [] b n r = (tt, tt)
rises_with (c ∷ cs) b n r =
    let parts = or_parts (c.halves == b.halves) (list_any (λ x. x.halves == b.halves) cs) n in
    rises_by c cs b (nat_lt c.halves b.halves) refl (eqb-false c.halves b.halves parts.0) r (rises_with cs b parts.1 r.1)

pub all_with : (P : Bound → Type 0) (cs : List Bound) (b : Bound) → All P cs → P b → All P (with_bound cs b)
all_with P cs b a p =
    let k = below cs b.halves in
    All-append P (take k cs) (b ∷ drop k cs) (All-take P k cs a) (All-cons P b (drop k cs) p (All-drop P k cs a))

step : (bs : List Bound) (k : ℕ) → Rises bs → k + 1 < length (map (λ b. b.halves) bs)
    → get_or (map (λ b. b.halves) bs) k 0 < get_or (map (λ b. b.halves) bs) (k + 1) 0
step [] k r h = absurd (omega arith)
step (b ∷ []) k r h = absurd (omega arith)
step (b ∷ c ∷ cs) zero r h = r.0.0
step (b ∷ c ∷ cs) (suc k) r h =
    let e : suc k + 1 ≡ suc (k + 1) = omega arith in
    rw e (step (c ∷ cs) k r.1 (omega arith))

pub increasing_halves : (bs : List Bound) → Rises bs → IsStrictlyIncreasing (map (λ b. b.halves) bs)
increasing_halves bs r k h = step bs k r h
