-- What `added` does to a list of counts.
use Rattle.std.proofs.Common.{◌≡◌, ℕ, suc, zero, ◌+◌, ◌<◌, Bool, true, false, List, [], ◌∷◌, ◌++◌, length, get_or, drop, refl, sym, ap, ◌∙◌, arith, add-one, cond, ltb, inl, inr}
use Rattle.std.specs.Prelude.{sum_by}
use Rattle.std.proofs.Math.Seq.{drop-cons}
use Rattle.std.proofs.lemmas.Bool.{cases_Bool, and_parts}
use Rattle.std.proofs.lemmas.List.Sums.{sum_by-cons, sum_by-append, sum_by_push}
use Rattle.stat_defs.specs.declared.bins.Bin.{Bin}
use Rattle.stat_defs.specs.declared.bins.BinCount.{BinCount}
use Rattle.loglinear_bins.specs.Bins.{is_same, low_tenths, bin_of_value}
use Rattle.loglinear_bins.specs.Counts.{AreLawful, AreBinsOf, total, count_of, placed, added, merged}
use Rattle.loglinear_bins.proofs.Places.{is_same-true}

-- a sum over counts gains the share of what is placed, where the share of a bin is its count times a factor of its own
placed_case : (f : BinCount → ℕ) → ((bin : Bin) (m n : ℕ) → f (record { bin = bin; count = m + n }) ≡ f (record { bin = bin; count = m }) + f (record { bin = bin; count = n })) → (c : BinCount) (cs : List BinCount) (bin : Bin) (n : ℕ) → sum_by f (placed cs bin n) ≡ sum_by f cs + f (record { bin = bin; count = n }) → sum_by f (placed (c ∷ cs) bin n) ≡ sum_by f (c ∷ cs) + f (record { bin = bin; count = n })
placed_case f linear c cs bin n rest = elim (cases_Bool (is_same c.bin bin)) [
  | inl same ↦
      let is : c.bin ≡ bin = is_same-true c.bin bin same in
      let share : f (record { bin = c.bin; count = n }) ≡ f (record { bin = bin; count = n }) = ap (λ (b : Bin). f (record { bin = b; count = n })) is in
      rw same (sum_by-cons f (record { bin = c.bin; count = c.count + n }) cs ∙ omega (arith, linear c.bin c.count n, sum_by-cons f c cs, share))
  | inr other ↦ elim (cases_Bool (ltb (low_tenths bin) (low_tenths c.bin))) [
    | inl below ↦ rw (other, below) (sum_by-cons f (record { bin = bin; count = n }) (c ∷ cs) ∙ omega arith)
    | inr above ↦ rw (other, above) (sum_by-cons f c (placed cs bin n) ∙ omega (arith, rest, sum_by-cons f c cs))
  ]
]

sum_by-placed : (f : BinCount → ℕ) → ((bin : Bin) (m n : ℕ) → f (record { bin = bin; count = m + n }) ≡ f (record { bin = bin; count = m }) + f (record { bin = bin; count = n })) → (cs : List BinCount) (bin : Bin) (n : ℕ) → sum_by f (placed cs bin n) ≡ sum_by f cs + f (record { bin = bin; count = n })
sum_by-placed f linear [] bin n = sum_by-cons f (record { bin = bin; count = n }) [] ∙ omega arith
sum_by-placed f linear (c ∷ cs) bin n = placed_case f linear c cs bin n (sum_by-placed f linear cs bin n)

-- the number of values grows by what is added
pub total-added : (cs : List BinCount) (bin : Bin) (n : ℕ) → total (added cs bin n) ≡ total cs + n
total-added cs bin zero = omega arith
total-added cs bin (suc n) = sum_by-placed (λ c. c.count) (λ b m k. refl) cs bin (suc n)

-- the rest of a list of lawful bins
pub lawful-drop : (ps : List BinCount) (i : ℕ) (d : BinCount) → i < length ps → AreLawful (drop i ps) → AreLawful (drop (i + 1) ps)
lawful-drop ps i d short lawful = rw add-one ((and_parts _ _ (rw (drop-cons ps i d short) at lawful)).1)

-- one pair of a list is added, and the rest is still to come
pub total-step : (cs ps : List BinCount) (i : ℕ) (d : BinCount) → i < length ps → total (added cs (get_or ps i d).bin (get_or ps i d).count) + total (drop (i + 1) ps) ≡ total cs + total (drop i ps)
total-step cs ps i d short = rw add-one (omega (arith, total-added cs (get_or ps i d).bin (get_or ps i d).count, ap total (drop-cons ps i d short), sum_by-cons (λ (c : BinCount). c.count) (get_or ps i d) (drop (suc i) ps)))

pub merged-step : (cs ps : List BinCount) (i : ℕ) (d : BinCount) → i < length ps → merged (added cs (get_or ps i d).bin (get_or ps i d).count) (drop (i + 1) ps) ≡ merged cs (drop i ps)
merged-step cs ps i d short = rw (add-one, drop-cons ps i d short) refl

cond-add : (b : Bool) (m n : ℕ) → ◌≡◌ {A = ℕ} (cond b (m + n) 0) (cond b m 0 + cond b n 0)
cond-add true m n = refl
cond-add false m n = omega arith

-- a bin's count grows by what is added to it
pub count_of-added : (cs : List BinCount) (bin other : Bin) (n : ℕ) → count_of (added cs bin n) other ≡ count_of cs other + cond (is_same bin other) n 0
count_of-added cs bin other zero = omega (arith, none (is_same bin other))
  where
    none : (b : Bool) → ◌≡◌ {A = ℕ} (cond b 0 0) 0
    none true = refl
    none false = refl
count_of-added cs bin other (suc n) = sum_by-placed (λ c. cond (is_same c.bin other) c.count 0) (λ b m k. cond-add (is_same b other) m k) cs bin (suc n)

pub count_of-merged : (cs ps : List BinCount) (other : Bin) → count_of (merged cs ps) other ≡ count_of cs other + count_of ps other
count_of-merged cs [] other = omega arith
count_of-merged cs (p ∷ ps) other = count_of-merged (added cs p.bin p.count) ps other ∙ omega (arith, count_of-added cs p.bin other p.count, sum_by-cons (λ (c : BinCount). cond (is_same c.bin other) c.count 0) p ps)

pub total-merged : (cs ps : List BinCount) → total (merged cs ps) ≡ total cs + total ps
total-merged cs [] = omega arith
total-merged cs (p ∷ ps) = total-merged (added cs p.bin p.count) ps ∙ omega (arith, total-added cs p.bin p.count, sum_by-cons (λ (c : BinCount). c.count) p ps)

-- after a record, the bins are those of the list with the value
pub AreBinsOf-added : (counts : List BinCount) (values : List ℕ) (v : ℕ) → AreBinsOf counts values → AreBinsOf (added counts (bin_of_value v) 1) (values ++ v ∷ [])
AreBinsOf-added counts values v are = record {
  each = λ bin. count_of-added counts (bin_of_value v) bin 1 ∙ (ap (λ n. n + cond (is_same (bin_of_value v) bin) 1 0) (are.each bin) ∙ sym (sum_by_push (λ u. cond (is_same (bin_of_value u) bin) 1 0) values v));
}

-- after a merge, the bins are those of both lists
pub AreBinsOf-merged : (counts others : List BinCount) (values more : List ℕ) → AreBinsOf counts values → AreBinsOf others more → AreBinsOf (merged counts others) (values ++ more)
AreBinsOf-merged counts others values more one other = record {
  each = λ bin. count_of-merged counts others bin ∙ (omega (arith, one.each bin, other.each bin) ∙ sym (sum_by-append (λ u. cond (is_same (bin_of_value u) bin) 1 0) values more));
}
