-- Each step of a gauge bank keeps its rule.
use Rattle.std.proofs.Common.{◌≡◌, ℕ, ◌+◌, ◌*◌, ◌%◌, ◌^◌, ◌<◌, inl, inr, ⊎_elim, List, [], ◌∷◌, length, get_or, set, sym, refl, ap, ◌∙◌, subst, arith, eqb, eq-eqb, ne_eqb, length-set, get_or-set_same, get_or-set_other, Bool, true, false, All}
use mathlib.Core.Logic.{dite}
use mathlib.Core.Option.{some}
use native.Mathlib.Decide.{ℕ_discrete}
use lib.ListN.{get_elem?}
use Rattle.atomic_table.specs.Table.{State, Me, keeps, stepped, Allows}
use Rattle.seat_parts.specs.Parts.{total, parts_total, led_by}
use Rattle.seat_parts.proofs.Sums.{total-ones, all-at, all-mapped}
use Rattle.seat_parts.proofs.Cuts.{step-total, step-all, step-beside, own-fits, one-view, led}
use Rattle.seat_parts.proofs.Anys.{step-any, own-any, one-any}
use Rattle.metric_words.specs.declared.gauge_view.GaugeKind.{GaugeKind}
use Rattle.metric_words.specs.declared.gauge_view.GaugeKind.TheVariants.{Add, Sub, Set, Load}
use Rattle.metric_words.specs.declared.gauge_view.GaugePart.{GaugePart}
use Rattle.metric_words.specs.declared.gauge_view.GaugeKey.{GaugeKey}
use Rattle.metric_words.specs.Counters.{when, choose}
use Rattle.metric_words.specs.Gauges.{View, gauge_step, counts, net, writes, written, left_by, fold_of, set_or, if_same, LastSet, Alone, WroteLast, IsGaugeWord, Gauged, HasAllSeats, longer_gauge, with_gauge_step}
use Rattle.metric_words.proofs.CounterKeeps.{when-same, when-other}

abbrev St : Type 0
St = State (Unit {0}) View

nets : (kind : GaugeKind) (n x s : ℕ) → x ≡ s % 2 ^ 64 → n < 2 ^ 64 → left_by kind n x ≡ (s + counts kind n x) % 2 ^ 64
nets Add n x s e h = omega arith
nets Sub n x s e h = omega arith
nets Set n x s e h = omega arith
nets Load n x s e h = omega arith

last-of : (kind : GaugeKind) (n x word : ℕ) (Earlier : Type 0) → writes kind ≡ 1 → word ≡ left_by kind n x → set_or kind n word Earlier
last-of Add n x word Earlier w e = tt
last-of Sub n x word Earlier w e = tt
last-of Set n x word Earlier w e = e
last-of Load n x word Earlier w e = absurd (omega arith)

when-zero : (b : Bool) → when b 0 ≡ 0
when-zero true = refl
when-zero false = refl

choose-one : (b : Bool) (n : ℕ) → choose b n n ≡ n
choose-one true n = refl
choose-one false n = refl

either-way : (b : Bool) (P : Type 0) → P → if_same b P P
either-way true P p = p
either-way false P p = p

module _ (key : GaugeKey) (s : St) (r : Gauged key s) where
  abbrev writes_of : ℕ → ℕ
  writes_of k = parts_total (λ (p : GaugePart). written k p.steps) s.views

  abbrev Knows : GaugePart → Type 0
  Knows p = p.workers ≡ key.workers

  -- the seat id, whose own part is p, makes a step that writes
  write-placed : (kind : GaugeKind) (i n id : ℕ) (p : GaugePart) (ps : List GaugePart) → get_elem? s.views id ≡ some (led_by p ps) → writes kind ≡ 1 → i < key.size → n < 2 ^ 64
      → Gauged key (stepped s (8 * i) (left_by kind n (get_or s.words (8 * i) 0)) id [] (led_by (longer_gauge (gauge_step kind i n (get_or s.words (8 * i) 0)) p) ps) keeps)
  write-placed kind i n id p ps at one small fits =
      let x : ℕ = get_or s.words (8 * i) 0 in let y : ℕ = left_by kind n x in let q : GaugePart = longer_gauge (gauge_step kind i n x) p in
      let words : List ℕ = set s.words (8 * i) y in let views : List View = set s.views id (led_by q ps) in let wide = r.wide in
      let here : get_or words (8 * i) 0 ≡ y = get_or-set_same s.words (8 * i) y 0 (omega arith) in
      let there : (k : ℕ) → ¬ (i ≡ k) → get_or words (8 * k) 0 ≡ get_or s.words (8 * k) 0 = λ k ne. get_or-set_other s.words (8 * i) (8 * k) y 0 (λ e. ne (omega arith)) in
      let after : ℕ → ℕ = λ k. parts_total (λ (a : GaugePart). written k a.steps) views in
      let writes-step : (k : ℕ) → after k + written k p.steps ≡ writes_of k + written k q.steps = λ k. step-total (λ (a : GaugePart). written k a.steps) s.views id p q ps at in
      let same-writes : (k : ℕ) → ¬ (i ≡ k) → after k ≡ writes_of k = λ k ne. let t = writes-step k in let z = when-other i k (writes kind) ne in omega arith in
      let own : Alone s.words writes_of p = own-fits (Alone s.words writes_of) s.views id p ps at r.alone in
      record {
        wide = length-set s.words (8 * i) y ∙ r.wide;
        seats = (let t = step-total (λ (_ : GaugePart). 1) s.views id p q ps at in let c = r.seats in omega arith);
        knows = step-all Knows Knows (λ _ f. f) s.views id p q ps at r.knows (own-fits Knows s.views id p ps at r.knows);
        value = λ k. (let t = step-total (λ (a : GaugePart). net k a.steps) s.views id p q ps at in let v = r.value k in dite (ℕ_discrete i k)
            (λ e. let z = when-same i k (counts kind n x) e in let v' : x ≡ parts_total (λ (a : GaugePart). net k a.steps) s.views % 2 ^ 64 = ap (λ j. get_or s.words (8 * j) 0) e ∙ v in
            let sums : parts_total (λ (a : GaugePart). net k a.steps) views ≡ parts_total (λ (a : GaugePart). net k a.steps) s.views + counts kind n x = omega arith in
            ap (λ j. get_or words (8 * j) 0) (sym e) ∙ (here ∙ (nets kind n x (parts_total (λ (a : GaugePart). net k a.steps) s.views) v' fits ∙ ap (λ (z : ℕ). z % 2 ^ 64) (sym sums))))
            (λ ne. let z = when-other i k (counts kind n x) ne in
            let sums : parts_total (λ (a : GaugePart). net k a.steps) views ≡ parts_total (λ (a : GaugePart). net k a.steps) s.views = omega arith in
            there k ne ∙ (v ∙ ap (λ (z : ℕ). z % 2 ^ 64) (sym sums))));
        alone = step-beside (Alone s.words writes_of) (Alone words after) s.views id p q ps at
            (λ z f beside k only. dite (ℕ_discrete i k)
            (λ e. absurd (let b = beside (λ a. written k a.steps) in let w = when-same i k (writes kind) e in omega arith))
            (λ ne. there k ne ∙ f k (sym (same-writes k ne) ∙ only)))
            r.alone
            (λ k only. let t = writes-step k in dite (ℕ_discrete i k)
            (λ e. let before : x ≡ fold_of k p.steps = ap (λ j. get_or s.words (8 * j) 0) e ∙ own k (omega arith) in
            ap (λ j. get_or words (8 * j) 0) (sym e) ∙ (here ∙ (ap (λ z. left_by kind n z) before ∙ sym (ap (λ b. choose b (left_by kind n (fold_of k p.steps)) (fold_of k p.steps)) (eq-eqb i k e)))))
            (λ ne. let z = when-other i k (writes kind) ne in let w = same-writes k ne in
            there k ne ∙ (own k (omega arith) ∙ sym (ap (λ b. choose b (left_by kind n (fold_of k p.steps)) (fold_of k p.steps)) (ne_eqb i k ne)))));
        last = λ k. dite (ℕ_discrete i k)
            (λ e. inr (own-any (WroteLast k (get_or words (8 * k) 0)) s.views id p q ps at (
              (let w = when-same i k (writes kind) e in omega arith),
              subst (λ b. if_same b (set_or kind n (get_or words (8 * k) 0) (LastSet k p.steps (get_or words (8 * k) 0))) (LastSet k p.steps (get_or words (8 * k) 0))) (sym (eq-eqb i k e))
                  (last-of kind n x (get_or words (8 * k) 0) (LastSet k p.steps (get_or words (8 * k) 0)) one (ap (λ j. get_or words (8 * j) 0) (sym e) ∙ here)),
            )))
            (λ ne. let same = there k ne in ⊎_elim
            (λ z. inl (same-writes k ne ∙ z))
            (λ a. inr (step-any (WroteLast k (get_or s.words (8 * k) 0)) (WroteLast k (get_or words (8 * k) 0)) s.views id p q ps at
            (λ f. (
              (let z = when-other i k (writes kind) ne in let f0 = f.0 in omega arith),
              subst (λ b. if_same b (set_or kind n (get_or words (8 * k) 0) (LastSet k p.steps (get_or words (8 * k) 0))) (LastSet k p.steps (get_or words (8 * k) 0))) (sym (ne_eqb i k ne)) (subst (λ w. LastSet k p.steps w) (sym same) f.1),
            ))
            (λ z f. (f.0, subst (λ w. LastSet k z.steps w) (sym same) f.1)) a))
            (r.last k));
      }

  load-placed : (i id : ℕ) (p : GaugePart) (ps : List GaugePart) → get_elem? s.views id ≡ some (led_by p ps) → i < key.size
      → Gauged key (stepped s (8 * i) (get_or s.words (8 * i) 0) id [] (led_by (longer_gauge (gauge_step Load i 0 (get_or s.words (8 * i) 0)) p) ps) keeps)
  load-placed i id p ps at small =
      let x : ℕ = get_or s.words (8 * i) 0 in let q : GaugePart = longer_gauge (gauge_step Load i 0 x) p in
      let words : List ℕ = set s.words (8 * i) x in let views : List View = set s.views id (led_by q ps) in let wide = r.wide in
      let same : (k : ℕ) → get_or words (8 * k) 0 ≡ get_or s.words (8 * k) 0 =
      λ k. dite (ℕ_discrete k i) (λ e. ap (λ j. get_or words (8 * j) 0) e ∙ (get_or-set_same s.words (8 * i) x 0 (omega arith) ∙ ap (λ j. get_or s.words (8 * j) 0) (sym e))) (λ ne. get_or-set_other s.words (8 * i) (8 * k) x 0 (λ e. ne (omega arith))) in
      let after : ℕ → ℕ = λ k. parts_total (λ (a : GaugePart). written k a.steps) views in
      let same-writes : (k : ℕ) → after k ≡ writes_of k = λ k. let t = step-total (λ (a : GaugePart). written k a.steps) s.views id p q ps at in let z = when-zero (eqb i k) in omega arith in
      let own : Alone s.words writes_of p = own-fits (Alone s.words writes_of) s.views id p ps at r.alone in
      record {
        wide = length-set s.words (8 * i) x ∙ r.wide;
        seats = (let t = step-total (λ (_ : GaugePart). 1) s.views id p q ps at in let c = r.seats in omega arith);
        knows = step-all Knows Knows (λ _ f. f) s.views id p q ps at r.knows (own-fits Knows s.views id p ps at r.knows);
        value = λ k. (let t = step-total (λ (a : GaugePart). net k a.steps) s.views id p q ps at in let z = when-zero (eqb i k) in
            let sums : parts_total (λ (a : GaugePart). net k a.steps) views ≡ parts_total (λ (a : GaugePart). net k a.steps) s.views = omega arith in
            same k ∙ (r.value k ∙ ap (λ (z : ℕ). z % 2 ^ 64) (sym sums)));
        alone = step-all (Alone s.words writes_of) (Alone words after) (λ z f k only. same k ∙ f k (sym (same-writes k) ∙ only)) s.views id p q ps at r.alone
            (λ k only. let z = when-zero (eqb i k) in let w = same-writes k in same k ∙ (own k (omega arith) ∙ sym (choose-one (eqb i k) (fold_of k p.steps))));
        last = λ k. ⊎_elim
            (λ z. inl (same-writes k ∙ z))
            (λ a. inr (step-any (WroteLast k (get_or s.words (8 * k) 0)) (WroteLast k (get_or words (8 * k) 0)) s.views id p q ps at
            (λ f. (
              (let z = when-zero (eqb i k) in let f0 = f.0 in omega arith),
              either-way (eqb i k) (LastSet k p.steps (get_or words (8 * k) 0)) (subst (λ w. LastSet k p.steps w) (sym (same k)) f.1),
            ))
            (λ z f. (f.0, subst (λ w. LastSet k z.steps w) (sym (same k)) f.1)) a))
            (r.last k);
      }

  -- where one view has all parts, each word is what their steps left
  module _ (id : ℕ) (v : View) (at : get_elem? s.views id ≡ some v) (count : length v.parts ≡ key.workers + 2) where
    whole : (f : GaugePart → ℕ) → parts_total f s.views ≡ total f v.parts
    whole f = let n = r.seats in let ones = total-ones v.parts in
        one-view f (λ _. 1) (λ _. Unit {0}) (λ p _ z. absurd (omega arith)) s.views (λ k d h k' d' h'. tt) id v at (omega arith)

    pub all-steps : (k : ℕ) → IsGaugeWord k v.parts (get_or s.words (8 * k) 0)
    all-steps k = let word : ℕ = get_or s.words (8 * k) 0 in let A : GaugePart → Type 0 = Alone s.words writes_of in record {
      value = r.value k ∙ ap (λ (z : ℕ). z % 2 ^ 64) (whole (λ p. net k p.steps));
      alone = all-mapped A (λ p. total (λ (q : GaugePart). written k q.steps) v.parts ≡ written k p.steps → word ≡ fold_of k p.steps)
          (λ p f only. f k (whole (λ q. written k q.steps) ∙ only)) v.parts (all-at (λ (z : View). All A z.parts) s.views id v r.alone at);
      last = ⊎_elim
          (λ z. inl (sym (whole (λ p. written k p.steps)) ∙ z))
          (λ a. inr (one-any (WroteLast k word) s.views id v at (let n = r.seats in omega arith) a))
          (r.last k);
    }

  -- of a seat that knows how many workers there are
  taken-all : (id : ℕ) (p : GaugePart) (ps : List GaugePart) → get_elem? s.views id ≡ some (led_by p ps) → length ps ≡ p.workers + 1 → (k : ℕ) → IsGaugeWord k (p ∷ ps) (get_or s.words (8 * k) 0)
  taken-all id p ps at count k = all-steps id (led_by p ps) at (let w = own-fits Knows s.views id p ps at r.knows in omega arith) k

abbrev Sat : Type 0
Sat = Me (Unit {0}) View

-- What the table asks of each step, of a seat that has a part of its own.
module _ (key : GaugeKey) (slots id i : ℕ) where
  abbrev Leaves : GaugeKind → ℕ → Sat → ℕ → Sat → Type 0
  Leaves kind n m found m' = (j : ℕ) → 8 * i ≡ 8 * j → m' ≡ (with_gauge_step (gauge_step kind j n found) m.0, m.1)

  abbrev Reads : Sat → ℕ → Sat → Type 0
  Reads m found m' = (j : ℕ) → 8 * i ≡ 8 * j → (m' ≡ (with_gauge_step (gauge_step Load j 0 found) m.0, m.1)) × (HasAllSeats m.0 → IsGaugeWord j m.0.parts found)

  pub write-allowed : (kind : GaugeKind) (m : Sat) (n : ℕ) → writes kind ≡ 1 → 0 < length m.0.parts → length m.1 ≡ 0 → i < key.size → n < 2 ^ 64
      → Allows (Gauged key) slots id m (8 * i) (left_by kind n) (Leaves kind n m)
  write-allowed kind m n one a b small fits = let t = led m a b in let p = t.0 in let ps = t.1 in
      subst (λ (z : Sat). Allows (Gauged key) slots id z (8 * i) (left_by kind n) (Leaves kind n z)) (sym t.2)
      (λ s r _ at _. (
        led_by (longer_gauge (gauge_step kind i n (get_or s.words (8 * i) 0)) p) ps,
        keeps,
        tt,
        write-placed key s r kind i n id p ps at one small fits,
        λ j e. let same : i ≡ j = omega arith in ap (λ (z : ℕ). (led_by (longer_gauge (gauge_step kind z n (get_or s.words (8 * i) 0)) p) ps, [])) same,
      ))

  pub load-allowed : (m : Sat) → 0 < length m.0.parts → length m.1 ≡ 0 → i < key.size
      → Allows (Gauged key) slots id m (8 * i) (λ x. x) (Reads m)
  load-allowed m a b small = let t = led m a b in let p = t.0 in let ps = t.1 in
      subst (λ (z : Sat). Allows (Gauged key) slots id z (8 * i) (λ x. x) (Reads z)) (sym t.2)
      (λ s r _ at _. (
        led_by (longer_gauge (gauge_step Load i 0 (get_or s.words (8 * i) 0)) p) ps,
        keeps,
        tt,
        load-placed key s r i id p ps at small,
        λ j e. let same : i ≡ j = omega arith in (
          ap (λ (z : ℕ). (led_by (longer_gauge (gauge_step Load z 0 (get_or s.words (8 * i) 0)) p) ps, [])) same,
          λ count. subst (λ (z : ℕ). IsGaugeWord z (p ∷ ps) (get_or s.words (8 * i) 0)) same (taken-all key s r id p ps at count i),
        ),
      ))
