-- Lists of parts: there is one for given segments, and it has as many values as they have.
use Rattle.std.proofs.Common.{◌≡◌, ◌≢◌, ℕ, zero, suc, ◌+◌, ◌==◌, cond, not, Bool, true, false, List, [], ◌∷◌, ◌++◌, map, fold, length, take, refl, ap, sym, ◌∙◌, subst, arith, inl, inr, ◌⊎◌}
use Rattle.std.specs.Prelude.{AllPairs, filter, sum_by}
use Rattle.std.specs.List.{AllByRecursion}
use Rattle.std.proofs.lemmas.Bool.Decides.{eqb_tells}
use Rattle.std.proofs.lemmas.List.Sums.{sum_by-cons, sum_by_push}
use Rattle.std.proofs.lemmas.List.Elements.{recursion_from_All}
use Rattle.std.proofs.lemmas.List.{length-drop}
use Rattle.stat_defs.specs.declared.bins.BinCount.{BinCount}
use Rattle.stat_defs.specs.declared.ids.MetricId.{MetricId}
use Rattle.stat_defs.specs.declared.reports.Part.{Part}
use Rattle.stat_defs.specs.declared.reports.FlushRecord.{FlushRecord}
use Rattle.loglinear_bins.specs.Bins.{bin_of_value}
use Rattle.loglinear_bins.specs.Counts.{total, added, bins_of}
use Rattle.loglinear_bins.proofs.Adding.{total-added}
use Rattle.merge_round.specs.Halves.{values_on, bins_by}
use Rattle.merge_round.specs.Rounds.{IsBefore, HasPart, ArePartsOf}
use Rattle.ledger.specs.Work.{Work, recordings}
use Rattle.ledger.proofs.Lists.{nil_cons, cons_same, none_of, number_apart, number_same, metric_id}
use Rattle.ledger.specs.Segments.{part_count, taken_from, left_over, TakesLess, taken_now, segment_of, bins_by_worker}

-- the part is this worker's, of this histogram
abbrev IsOn : Part → ℕ → ℕ → Type 0
IsOn p w id = (p.worker ≡ w) × (p.id.0 ≡ id)

abbrev Has : List Part → ℕ → ℕ → Type 0
Has [] w id = ⊥
Has (p ∷ ps) w id = IsOn p w id ⊎ Has ps w id

abbrev Before : Part → Part → Type 0
Before p q = IsBefore p.worker p.id.0 q.worker q.id.0

abbrev Ordered : List Part → Type 0
Ordered [] = Unit {0}
Ordered (p ∷ ps) = AllByRecursion (Before p) ps × Ordered ps

abbrev Held : (ℕ → ℕ → List BinCount) → List Part → Type 0
Held bins ps = AllByRecursion (λ p. (p.bins ≡ bins p.worker p.id.0) × (p.bins ≢ [])) ps

ordered : (ps : List Part) → AllPairs Before ps → Ordered ps
ordered [] pairs = tt
ordered (p ∷ ps) pairs = (
  recursion_from_All (Before p) ps (λ k d below. pairs 0 (suc k) d (omega arith) (omega (arith, below))),
  ordered ps (λ i j d low below. pairs (suc i) (suc j) d (omega (arith, low)) (omega (arith, below))),
)

has_any : (ps : List Part) (w id : ℕ) → HasPart ps w id → Has ps w id
has_any [] w id (k, x, below, at, is) = absurd (omega (arith, below))
has_any (p ∷ ps) w id (zero, x, below, at, is) = inl (subst (λ (q : Part). IsOn q w id) (sym at) is)
has_any (p ∷ ps) w id (suc k, x, below, at, is) = inr (has_any ps w id (k, x, omega (arith, below), at, is))

has_some : (bins : ℕ → ℕ → List BinCount) (ps : List Part) (w id : ℕ) → Held bins ps → Has ps w id → bins w id ≢ []
has_some bins [] w id held has = absurd has
has_some bins (p ∷ ps) w id held (inl on) =
    λ none. held.0.1 (held.0.0 ∙ ap (λ (v : ℕ). bins v p.id.0) on.0 ∙ ap (λ (i : ℕ). bins w i) on.1 ∙ none)
has_some bins (p ∷ ps) w id held (inr has) = has_some bins ps w id held.1 has

not_twice : (a b c d : ℕ) → IsBefore a b c d → a ≡ c → b ≡ d → ⊥
not_twice a b c d before e f = elim before [ inl low ↦ omega (arith, low, e) | inr same ↦ let low = same.1 in omega (arith, low, f) ]

not_both : (a b c d : ℕ) → IsBefore a b c d → IsBefore c d a b → ⊥
not_both a b c d (inl low) (inl high) = omega (arith, low, high)
not_both a b c d (inl low) (inr same) = let e = same.0 in omega (arith, low, e)
not_both a b c d (inr same) (inl high) = let e = same.0 in omega (arith, high, e)
not_both a b c d (inr same) (inr more) = let low = same.1 in let high = more.1 in omega (arith, low, high)

has_after : (p : Part) (ps : List Part) (w id : ℕ) → AllByRecursion (Before p) ps → Has ps w id → IsBefore p.worker p.id.0 w id
has_after p [] w id all has = absurd has
has_after p (q ∷ ps) w id all (inl on) = subst (λ (i : ℕ). IsBefore p.worker p.id.0 w i) on.1 (subst (λ (v : ℕ). IsBefore p.worker p.id.0 v q.id.0) on.0 all.0)
has_after p (q ∷ ps) w id all (inr has) = has_after p ps w id all.1 has

-- what stands in the tail of the one stands in that of the other, where the heads are on the same
in_tail : (p q : Part) (ps qs : List Part) (w id : ℕ) → AllByRecursion (Before p) ps → IsOn q p.worker p.id.0 → Has ps w id → Has (q ∷ qs) w id → Has qs w id
in_tail p q ps qs w id all on has (inl at) =
    absurd (not_twice p.worker p.id.0 w id (has_after p ps w id all has) (sym on.0 ∙ at.0) (sym on.1 ∙ at.1))
in_tail p q ps qs w id all on has (inr later) = later

part_same : (w v : ℕ) (i j : MetricId) (b c : List BinCount) → w ≡ v → i ≡ j → b ≡ c → ◌≡◌ {A = Part} (record { worker = w; id = i; bins = b }) (record { worker = v; id = j; bins = c })
part_same w v i j b c e f g = cc

module _ (bins : ℕ → ℕ → List BinCount) where
  abbrev Includes : List Part → List Part → Type 0
  Includes qs ps = (w id : ℕ) → Has ps w id → Has qs w id

  same_key : (p q : Part) (ps qs : List Part) → AllByRecursion (Before p) ps → AllByRecursion (Before q) qs → IsOn q p.worker p.id.0 ⊎ Has qs p.worker p.id.0 → IsOn p q.worker q.id.0 ⊎ Has ps q.worker q.id.0 → IsOn q p.worker p.id.0
  same_key p q ps qs op oq (inl on) b = on
  same_key p q ps qs op oq (inr a) (inl on) = (sym on.0, sym on.1)
  same_key p q ps qs op oq (inr a) (inr b) = absurd (not_both q.worker q.id.0 p.worker p.id.0 (has_after q qs p.worker p.id.0 oq a) (has_after p ps q.worker q.id.0 op b))

  same_list : (ps qs : List Part) → Held bins ps → Held bins qs → Ordered ps → Ordered qs → Includes qs ps → Includes ps qs → ps ≡ qs
  same_list [] [] hp hq op oq to from = refl
  same_list [] (q ∷ qs) hp hq op oq to from = absurd (from q.worker q.id.0 (inl (refl, refl)))
  same_list (p ∷ ps) [] hp hq op oq to from = absurd (to p.worker p.id.0 (inl (refl, refl)))
  same_list (p ∷ ps) (q ∷ qs) hp hq op oq to from =
      let on : IsOn q p.worker p.id.0 = same_key p q ps qs op.0 oq.0 (to p.worker p.id.0 (inl (refl, refl))) (from q.worker q.id.0 (inl (refl, refl))) in
      let back : IsOn p q.worker q.id.0 = (sym on.0, sym on.1) in
      let same : p.bins ≡ q.bins = hp.0.0 ∙ ap (λ (v : ℕ). bins v p.id.0) back.0 ∙ ap (λ (i : ℕ). bins q.worker i) back.1 ∙ sym hq.0.0 in
      cons_same p q ps qs (part_same p.worker q.worker p.id q.id p.bins q.bins back.0 (metric_id p.id q.id back.1) same)
      (same_list ps qs hp.1 hq.1 op.1 oq.1
      (λ w id has. in_tail p q ps qs w id op.0 on has (to w id (inr has)))
      (λ w id has. in_tail q p qs ps w id oq.0 back has (from w id (inr has))))

-- there is one list of parts
pub one_list : (bins : ℕ → ℕ → List BinCount) (ps qs : List Part) → ArePartsOf bins ps → ArePartsOf bins qs → ps ≡ qs
one_list bins ps qs a b =
    let hp : Held bins ps = recursion_from_All _ ps a.held in
    let hq : Held bins qs = recursion_from_All _ qs b.held in
    same_list bins ps qs hp hq (ordered ps a.order) (ordered qs b.order)
    (λ w id has. has_any qs w id (b.whole w id (has_some bins ps w id hp has)))
    (λ w id has. has_any ps w id (a.whole w id (has_some bins qs w id hq has)))

-- the values of a list are those on one histogram and those on the others
abbrev others : ℕ → List (ℕ × ℕ) → List (ℕ × ℕ)
others id values = filter (λ p. not (p.0 == id)) values

split_on : (id : ℕ) (values : List (ℕ × ℕ)) → length values ≡ length (values_on id values) + length (others id values)
split_on id [] = refl
split_on id (x ∷ values) = by_case (x.0 == id) (split_on id values) where
  by_case : (t : Bool) → length values ≡ length (values_on id values) + length (others id values)
      → length (x ∷ values) ≡ length (map (λ p. p.1) (cond t (x ∷ filter (λ p. p.0 == id) values) (filter (λ p. p.0 == id) values))) + length (cond (not t) (x ∷ others id values) (others id values))
  by_case true e = omega (arith, e)
  by_case false e = omega (arith, e)

none_left : (id : ℕ) (values : List (ℕ × ℕ)) → values_on id (others id values) ≡ []
none_left id [] = refl
none_left id (x ∷ values) = by_case (x.0 == id) refl (none_left id values) where
  by_case : (t : Bool) → (x.0 == id) ≡ t → values_on id (others id values) ≡ [] → values_on id (cond (not t) (x ∷ others id values) (others id values)) ≡ []
  by_case true e rest = rest
  by_case false e rest = ap (λ (t : Bool). map (λ (p : ℕ × ℕ). p.1) (cond t (x ∷ filter (λ p. p.0 == id) (others id values)) (filter (λ p. p.0 == id) (others id values)))) e ∙ rest

abbrev on_if : Bool → ℕ → ℕ × ℕ → List (ℕ × ℕ) → List ℕ
on_if t id x values = map (λ (p : ℕ × ℕ). p.1) (cond t (x ∷ filter (λ p. p.0 == id) values) (filter (λ p. p.0 == id) values))

same_on : (id other : ℕ) (values : List (ℕ × ℕ)) → other ≢ id → values_on other (others id values) ≡ values_on other values
same_on id other [] ne = refl
same_on id other (x ∷ values) ne =
    let rest = same_on id other values ne in
    elim (eqb_tells x.0 id) [ inl h ↦ here h.0 h.1 rest | inr h ↦ past h.0 rest ] where
      here : (x.0 == id) ≡ true → x.0 ≡ id → values_on other (others id values) ≡ values_on other values
          → values_on other (others id (x ∷ values)) ≡ values_on other (x ∷ values)
      here e at rest =
          ap (λ (t : Bool). values_on other (cond (not t) (x ∷ others id values) (others id values))) e
          ∙ rest
          ∙ ap (λ (t : Bool). on_if t other x values) (sym (number_apart x.0 other (λ same. ne (sym same ∙ at))))

      by_case : (t : Bool) → values_on other (others id values) ≡ values_on other values → on_if t other x (others id values) ≡ on_if t other x values
      by_case true rest = ap (λ (l : List ℕ). x.1 ∷ l) rest
      by_case false rest = rest

      past : (x.0 == id) ≡ false → values_on other (others id values) ≡ values_on other values
          → values_on other (others id (x ∷ values)) ≡ values_on other (x ∷ values)
      past e rest = ap (λ (t : Bool). values_on other (cond (not t) (x ∷ others id values) (others id values))) e ∙ by_case (x.0 == other) rest

-- a part of the worker has as many values as the list has on its histogram
abbrev Counts : ℕ → List (ℕ × ℕ) → List Part → Type 0
Counts w values ps = AllByRecursion (λ p. p.worker ≡ w → total p.bins ≡ length (values_on p.id.0 values)) ps

abbrev Covers : ℕ → List (ℕ × ℕ) → List Part → Type 0
Covers w values ps = (id : ℕ) → values_on id values ≢ [] → Has ps w id

none_covered : (w : ℕ) (values : List (ℕ × ℕ)) → Covers w values [] → length values ≡ 0
none_covered w [] covers = refl
none_covered w (x ∷ values) covers =
    let some : values_on x.0 (x ∷ values) ≡ x.1 ∷ values_on x.0 values =
    ap (λ (t : Bool). map (λ (p : ℕ × ℕ). p.1) (cond t (x ∷ filter (λ p. p.0 == x.0) values) (filter (λ p. p.0 == x.0) values))) (number_same x.0 x.0 refl) in
    absurd (covers x.0 (λ none. nil_cons x.1 (values_on x.0 values) (sym none ∙ some)))

counts_others : (w id : ℕ) (values : List (ℕ × ℕ)) (p : Part) (ps : List Part) → p.worker ≡ w → p.id.0 ≡ id → AllByRecursion (Before p) ps → Counts w values ps → Counts w (others id values) ps
counts_others w id values p [] at on after counts = tt
counts_others w id values p (q ∷ ps) at on after counts = (
  λ own. counts.0 own ∙ ap (λ (l : List ℕ). length l) (sym (same_on id q.id.0 values (λ same. not_twice p.worker p.id.0 q.worker q.id.0 after.0 (at ∙ sym own) (on ∙ sym same)))),
  counts_others w id values p ps at on after.1 counts.1,
)

covers_others : (w id : ℕ) (values : List (ℕ × ℕ)) (p : Part) (ps : List Part) → p.id.0 ≡ id → Covers w values (p ∷ ps) → Covers w (others id values) ps
covers_others w id values p ps on covers other some = elim (eqb_tells other id) [
  | inl h ↦ absurd (some (subst (λ (i : ℕ). values_on i (others id values) ≡ []) (sym h.1) (none_left id values)))
  | inr h ↦ elim (covers other (λ none. some (same_on id other values h.1 ∙ none))) [
    | inl at ↦ absurd (h.1 (sym at.1 ∙ on))
    | inr later ↦ later
  ]
]

covers_rest : (w : ℕ) (values : List (ℕ × ℕ)) (p : Part) (ps : List Part) → p.worker ≢ w → Covers w values (p ∷ ps) → Covers w values ps
covers_rest w values p ps ne covers id some = elim (covers id some) [ inl at ↦ absurd (ne at.0) | inr later ↦ later ]

-- the parts of one worker have all the values of its list
count_all : (w : ℕ) (values : List (ℕ × ℕ)) (ps : List Part) → Counts w values ps → Ordered ps → Covers w values ps → sum_by (part_count w) ps ≡ length values
count_all w values [] counts order covers = sym (none_covered w values covers)
count_all w values (p ∷ ps) counts order covers = elim (eqb_tells p.worker w) [
  | inl h ↦
      let rest = count_all w (others p.id.0 values) ps (counts_others w p.id.0 values p ps h.1 refl order.0 counts.1) order.1 (covers_others w p.id.0 values p ps refl covers) in
      let head : part_count w p ≡ total p.bins = ap (λ (t : Bool). cond t (total p.bins) 0) h.0 in
      let own = counts.0 h.1 in
      let whole = sum_by-cons (part_count w) p ps in
      let split = split_on p.id.0 values in
      omega (arith, rest, head, own, whole, split)
  | inr h ↦
      let rest = count_all w values ps counts.1 order.1 (covers_rest w values p ps h.1 covers) in
      let head : part_count w p ≡ 0 = ap (λ (t : Bool). cond t (total p.bins) 0) h.0 in
      let whole = sum_by-cons (part_count w) p ps in
      omega (arith, rest, head, whole)
]

total_from : (counts : List BinCount) (values : List ℕ) → total (fold (λ cs v. added cs (bin_of_value v) 1) counts values) ≡ total counts + length values
total_from counts [] = omega arith
total_from counts (v ∷ values) =
    omega (arith, total_from (added counts (bin_of_value v) 1) values, total-added counts (bin_of_value v) 1)

total_of : (values : List ℕ) → total (bins_of values) ≡ length values
total_of values = let counted : total (bins_of values) ≡ 0 + length values = total_from [] values in omega (arith, counted)

bins_none : (values : List ℕ) → bins_of values ≡ [] → values ≡ []
bins_none [] none = refl
bins_none (v ∷ values) none = absurd (omega (arith, total_of (v ∷ values), ap total none))

held_counts : (segs : List (List (ℕ × ℕ))) (w : ℕ) (ps : List Part) → Held (bins_by_worker segs) ps → Counts w (segment_of segs w) ps
held_counts segs w [] held = tt
held_counts segs w (p ∷ ps) held = (
  λ own. ap total held.0.0 ∙ ap (λ (v : ℕ). total (bins_by (segment_of segs v) p.id.0)) own ∙ total_of (values_on p.id.0 (segment_of segs w)),
  held_counts segs w ps held.1,
)

-- the parts of a segment have as many values as it has
pub counts : (segs : List (List (ℕ × ℕ))) (flush : FlushRecord) (at : ℕ) → ArePartsOf (bins_by_worker segs) flush.parts
    → taken_from (suc at) flush ≡ length (segment_of segs (suc at))
counts segs flush at are =
    let ps : List Part = flush.parts in
    let bins : ℕ → ℕ → List BinCount = bins_by_worker segs in
    let held : Held bins ps = recursion_from_All _ ps are.held in
    count_all (suc at) (segment_of segs (suc at)) ps (held_counts segs (suc at) ps held) (ordered ps are.order)
    (λ id some. has_any ps (suc at) id (are.whole (suc at) id (λ none. some (bins_none (values_on id (segment_of segs (suc at))) none))))

take_whole : {X : Type 0} (n : ℕ) (xs : List X) → n ≡ length xs → take n xs ≡ xs
take_whole n [] e = take_none n where
  take_none : {X : Type 0} (n : ℕ) → ◌≡◌ {A = List X} (take n []) []
  take_none zero = refl
  take_none (suc n) = refl
take_whole zero (x ∷ xs) e = absurd (omega (arith, e))
take_whole {X} (suc n) (x ∷ xs) e = ap (λ (l : List X). x ∷ l) (take_whole n xs (omega (arith, e)))

module _ (work : Work) (flushes : List FlushRecord) (flush : FlushRecord) (are : ArePartsOf (bins_by_worker (left_over 1 work flushes ∷ [])) flush.parts) where
  taken : taken_from 1 flush ≡ length (left_over 1 work flushes)
  taken = counts (left_over 1 work flushes ∷ []) flush 0 are

  pub all : taken_now 1 (work ∷ []) flushes flush ≡ left_over 1 work flushes ∷ []
  all = ap (λ (l : List (ℕ × ℕ)). l ∷ []) (take_whole (taken_from 1 flush) (left_over 1 work flushes) taken)

  pub nothing_left : left_over 1 work (flushes ++ flush ∷ []) ≡ []
  nothing_left =
      let more = sum_by_push (taken_from 1) flushes flush in
      let before = length-drop (sum_by (taken_from 1) flushes) (recordings work) in
      let after = length-drop (sum_by (taken_from 1) (flushes ++ flush ∷ [])) (recordings work) in
      none_of (left_over 1 work (flushes ++ flush ∷ [])) (omega (arith, taken, more, before, after))

  pub less : TakesLess 1 work flushes → TakesLess 1 work (flushes ++ flush ∷ [])
  less before =
      let more = sum_by_push (taken_from 1) flushes flush in
      let length_left = length-drop (sum_by (taken_from 1) flushes) (recordings work) in
      omega (arith, taken, more, before, length_left)
