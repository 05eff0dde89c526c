-- The bins that a table lists.
use Rattle.std.proofs.Common.{◌≡◌, ℕ, suc, zero, ◌+◌, ◌<◌, ◌≤◌, true, List, [], ◌∷◌, ◌++◌, length, get_or, set, drop, refl, sym, ap, ◌∙◌, arith, sum, replicate}
use Rattle.std.proofs.lemmas.Bool.{lt-ltb, le-ltb}
use Rattle.std.proofs.lemmas.List.{length-set, set-get_or, get_or_default}
use Rattle.std.proofs.lemmas.List.Sums.{sum_by-cons, sum_by-set}
use Rattle.std.proofs.Math.Seq.{drop-cons}
use Rattle.stat_defs.specs.declared.bins.Bin.{Bin}
use Rattle.stat_defs.specs.declared.bins.BinCount.{BinCount}
use Rattle.loglinear_bins.specs.Bins.{is_lawful}
use Rattle.loglinear_bins.specs.declared.place.TheConstants.{MAX_COUNT}
use Rattle.loglinear_bins.specs.Counts.{placed, added, total}
use Rattle.loglinear_bins.specs.Table.{bin_at, place_of, listed, IsTable}
use Rattle.loglinear_bins.proofs.Places.{is_same-refl, bin_at-place_of}
use Rattle.loglinear_bins.proofs.Order.{low_tenths-bin_at, other_bin, other_bin_back}

-- a bin at a place below the listed ones comes first
placed-front : (k place n : ℕ) (ns : List ℕ) → k < place → placed (listed place ns) (bin_at k) n ≡ (record { bin = bin_at k; count = n }) ∷ listed place ns
unfolding listed
placed-front k place n [] below = refl
placed-front k place n (zero ∷ ns) below = placed-front k (suc place) n ns (omega arith)
placed-front k place n (suc m ∷ ns) below = rw (other_bin_back k place below, lt-ltb _ _ (low_tenths-bin_at k place below)) refl

-- a greater count at one place lists its bin with that many more
listed-set : (k i n : ℕ) (ns : List ℕ) → i < length ns → listed k (set ns i (get_or ns i 0 + suc n)) ≡ placed (listed k ns) (bin_at (k + i)) (suc n)
unfolding listed
listed-set k i n [] short = absurd (omega arith)
listed-set k zero n (zero ∷ ns) short =
    let none : 0 + suc n ≡ suc n = omega arith in
    let here : k + 0 ≡ k = omega arith in
    rw (none, here) (sym (placed-front k (suc k) (suc n) ns (omega arith)))
listed-set k zero n (suc m ∷ ns) short =
    let more : suc m + suc n ≡ suc (m + suc n) = omega arith in
    let here : k + 0 ≡ k = omega arith in
    rw (here, is_same-refl (bin_at k), more) refl
listed-set k (suc i) n (zero ∷ ns) short =
    let next : k + suc i ≡ suc k + i = omega arith in
    rw next (listed-set (suc k) i n ns (omega arith))
listed-set k (suc i) n (suc m ∷ ns) short =
    let next : k + suc i ≡ suc k + i = omega arith in
    let below : k < suc k + i = omega arith in
    rw (next, other_bin k (suc k + i) below, le-ltb _ _ (le_from_lt (low_tenths-bin_at k (suc k + i) below))) (ap (λ (cs : List BinCount). (record { bin = bin_at k; count = suc m }) ∷ cs) (listed-set (suc k) i n ns (omega arith)))
  where
    le_from_lt : {a b : ℕ} → a < b → a ≤ b
    le_from_lt h = omega arith

-- the values of the listed bins are those of the table
pub total-listed : (k : ℕ) (ns : List ℕ) → total (listed k ns) ≡ sum ns
unfolding listed
total-listed k [] = refl
total-listed k (zero ∷ ns) = total-listed (suc k) ns ∙ sym (sum_by-cons (λ n. n) 0 ns ∙ omega arith)
total-listed k (suc n ∷ ns) = sum_by-cons (λ (c : BinCount). c.count) (record { bin = bin_at k; count = suc n }) (listed (suc k) ns) ∙ (ap (λ t. suc n + t) (total-listed (suc k) ns) ∙ sym (sum_by-cons (λ n. n) (suc n) ns))

-- an empty table lists nothing
pub listed-replicate : (k n : ℕ) → listed k (replicate n 0) ≡ []
unfolding listed
listed-replicate k zero = refl
listed-replicate k (suc n) = listed-replicate (suc k) n

-- nor do zeros at the end
pub listed-filled : (k n : ℕ) (ns : List ℕ) → listed k (ns ++ replicate n 0) ≡ listed k ns
unfolding listed
listed-filled k n [] = listed-replicate k n
listed-filled k n (zero ∷ ns) = listed-filled (suc k) n ns
listed-filled k n (suc m ∷ ns) = ap (λ (cs : List BinCount). (record { bin = bin_at k; count = suc m }) ∷ cs) (listed-filled (suc k) n ns)

at_cons : (k n : ℕ) (ns : List ℕ) → n ≡ 0 → listed k (n ∷ ns) ≡ listed (suc k) ns
unfolding listed
at_cons k zero ns none = refl
at_cons k (suc n) ns none = absurd (omega arith)

at_cons_some : (k n : ℕ) (ns : List ℕ) → 0 < n → listed k (n ∷ ns) ≡ (record { bin = bin_at k; count = n }) ∷ listed (suc k) ns
unfolding listed
at_cons_some k zero ns some = absurd (omega arith)
at_cons_some k (suc n) ns some = refl

-- an empty place is passed over
pub listed-drop-none : (i : ℕ) (ns : List ℕ) → i < length ns → get_or ns i 0 ≡ 0 → listed i (drop i ns) ≡ listed (suc i) (drop (suc i) ns)
listed-drop-none i ns short none = ap (listed i) (drop-cons ns i 0 short) ∙ at_cons i (get_or ns i 0) (drop (suc i) ns) none

-- any other one comes first
pub listed-drop-some : (i : ℕ) (ns : List ℕ) → i < length ns → 0 < get_or ns i 0 → listed i (drop i ns) ≡ (record { bin = bin_at i; count = get_or ns i 0 }) ∷ listed (suc i) (drop (suc i) ns)
listed-drop-some i ns short some = ap (listed i) (drop-cons ns i 0 short) ∙ at_cons_some i (get_or ns i 0) (drop (suc i) ns) some

pub listed-nil : (k : ℕ) → listed k [] ≡ []
unfolding listed
listed-nil k = refl

-- the same of the value that contracts see
pub total-view : (ns : List ℕ) (n : ℕ) (counts : List BinCount) → listed 0 ns ≡ counts → IsTable ns n → total counts ≡ n
total-view ns n counts view table = ap total (sym view) ∙ (total-listed 0 ns ∙ table.counted)

-- a write of `n` more keeps the table
pub IsTable-set : (ns : List ℕ) (total place here n : ℕ) → IsTable ns total → place < length ns → here ≡ get_or ns place here → total + n ≤ MAX_COUNT → IsTable (set ns place (here + n)) (total + n)
IsTable-set ns total place here n table below is room = record {
  within = omega (arith, length-set ns place (here + n), table.within);
  counted = omega (arith, sum_by-set (λ m. m) ns place (here + n) here below, table.counted);
  limit = room;
}

-- and adds them at the bin of the place
pub listed-added-at : (ns : List ℕ) (place here n : ℕ) → place < length ns → here ≡ get_or ns place here → listed 0 (set ns place (here + n)) ≡ added (listed 0 ns) (bin_at place) n
listed-added-at ns place here zero short is =
    let none : here + 0 ≡ get_or ns place here = omega arith in
    ap (listed 0) (ap (set ns place) none ∙ set-get_or ns place here)
listed-added-at ns place here (suc n) short is =
    let same : here ≡ get_or ns place 0 = is ∙ get_or_default ns place here 0 short in
    let at : 0 + place ≡ place = omega arith in
    ap (λ m. listed 0 (set ns place (m + suc n))) same ∙ (listed-set 0 place n ns short ∙ ap (λ k. placed (listed 0 ns) (bin_at k) (suc n)) at)

pub listed-added : (ns : List ℕ) (bin : Bin) (place here n : ℕ) → place < length ns → here ≡ get_or ns place here → place ≡ place_of bin → is_lawful bin ≡ true → listed 0 (set ns place (here + n)) ≡ added (listed 0 ns) bin n
listed-added ns bin place here n short is at lawful =
    listed-added-at ns place here n short is ∙ ap (λ (b : Bin). added (listed 0 ns) b n) (ap bin_at at ∙ bin_at-place_of bin lawful)
