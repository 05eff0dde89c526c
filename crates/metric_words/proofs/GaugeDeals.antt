-- A gauge bank begins under its rule, and splits and joins of seats keep it.
use Rattle.std.proofs.Common.{◌≡◌, ℕ, zero, suc, ◌+◌, ◌*◌, ◌%◌, ◌^◌, inl, inr, ⊎_elim, List, [], ◌∷◌, ◌++◌, length, get_or, set, replicate, sym, refl, ap, ◌∙◌, arith, All}
use Rattle.std.proofs.lemmas.List.{length-replicate}
use Rattle.std.proofs.lemmas.List.Elements.{All-nil, All-cons}
use Rattle.atomic_table.specs.Table.{State, Splits, Joins, opening}
use Rattle.seat_parts.specs.Parts.{total, parts_total, AllParts, AnyPart, dealt, undealt, joined, spent}
use Rattle.seat_parts.proofs.Cuts.{split-total, split-all, join-total, join-all, parts-mapped}
use Rattle.seat_parts.proofs.Anys.{split-any, join-any}
use Rattle.metric_words.specs.declared.gauge_view.GaugePart.{GaugePart}
use Rattle.metric_words.specs.declared.gauge_view.GaugeKey.{GaugeKey}
use Rattle.metric_words.specs.Gauges.{View, net, written, Alone, WroteLast, Gauged, new_gauge, new_gauges, gauge_view}
use Rattle.metric_words.proofs.CounterDeals.{zeros-at}

module _ (workers : ℕ) where
  new-count : (seat n : ℕ) → total (λ (_ : GaugePart). 1) (new_gauges workers seat n) ≡ n
  new-count seat zero = refl
  new-count seat (suc n) = omega (arith, new-count (suc seat) n)

  new-none : (f : GaugePart → ℕ) → ((seat : ℕ) → f (new_gauge workers seat) ≡ 0) → (seat n : ℕ) → total f (new_gauges workers seat n) ≡ 0
  new-none f z seat zero = refl
  new-none f z seat (suc n) = omega (arith, z seat, new-none f z (suc seat) n)

  new-all : (F : GaugePart → Type 0) → ((seat : ℕ) → F (new_gauge workers seat)) → (seat n : ℕ) → All F (new_gauges workers seat n)
  new-all F f seat zero = All-nil F
  new-all F f seat (suc n) = All-cons F (new_gauge workers seat) (new_gauges workers (suc seat) n) (f seat) (new-all F f (suc seat) n)

pub opens : (key : GaugeKey) (words : List ℕ) → words ≡ replicate (8 * key.size) 0 → Gauged key (opening words [] (gauge_view key))
opens key words is =
    let none : (f : GaugePart → ℕ) → ((seat : ℕ) → f (new_gauge key.workers seat) ≡ 0) → parts_total f (gauge_view key ∷ []) ≡ 0 = λ f z. let a = new-none key.workers f z 0 (key.workers + 2) in omega arith in
    let zero-at : (k : ℕ) → get_or words k 0 ≡ 0 = λ k. ap (λ (l : List ℕ). get_or l k 0) is ∙ zeros-at (8 * key.size) k in
    let A : GaugePart → Type 0 = Alone words (λ id. parts_total (λ (p : GaugePart). written id p.steps) (gauge_view key ∷ [])) in
    let K : GaugePart → Type 0 = λ p. p.workers ≡ key.workers in
    record {
      wide = ap length is ∙ length-replicate (8 * key.size) 0;
      seats = (let n = new-count key.workers 0 (key.workers + 2) in omega arith);
      knows = All-cons (λ (v : View). All K v.parts) (gauge_view key) [] (new-all key.workers K (λ _. refl) 0 (key.workers + 2)) (All-nil (λ (v : View). All K v.parts));
      value = λ k. (let n = none (λ p. net k p.steps) (λ _. refl) in zero-at (8 * k) ∙ ap (λ (z : ℕ). z % 2 ^ 64) (sym n));
      alone = All-cons (λ (v : View). All A v.parts) (gauge_view key) [] (new-all key.workers A (λ seat k only. zero-at (8 * k)) 0 (key.workers + 2)) (All-nil (λ (v : View). All A v.parts));
      last = λ k. inl (none (λ p. written k p.steps) (λ _. refl));
    }

-- no other seat has written the gauges that this one has
abbrev LonePart : List ℕ → List View → GaugePart → Type 0
LonePart words views = Alone words (λ id. parts_total (λ (p : GaugePart). written id p.steps) views)

-- views with the same sums, in which some part still wrote last, keep the rule
regrouped : (key : GaugeKey) (s : State (Unit {0}) View) (views : List View) → Gauged key s
    → ((f : GaugePart → ℕ) → parts_total f views ≡ parts_total f s.views)
    → AllParts (λ p. p.workers ≡ key.workers) views → AllParts (LonePart s.words s.views) views
    → ((k : ℕ) → AnyPart (WroteLast k (get_or s.words (8 * k) 0)) s.views → AnyPart (WroteLast k (get_or s.words (8 * k) 0)) views)
    → Gauged key (record { words = s.words; homes = s.homes; views = views })
regrouped key s views r same knows alone some =
    record {
      wide = r.wide;
      seats = same (λ _. 1) ∙ r.seats;
      knows = knows;
      value = λ k. r.value k ∙ ap (λ (z : ℕ). z % 2 ^ 64) (sym (same (λ p. net k p.steps)));
      alone = parts-mapped (LonePart s.words s.views) (LonePart s.words views) (λ p f k only. f k (sym (same (λ q. written k q.steps)) ∙ only)) views alone;
      last = λ k. ⊎_elim (λ z. inl (same (λ p. written k p.steps) ∙ z)) (λ a. inr (some k a)) (r.last k);
    }

pub splits : (key : GaugeKey) (id : ℕ) (v : View) → Splits (Gauged key) id v (undealt v) (dealt v)
splits key id v s r at =
    regrouped key s (set s.views id (undealt v) ++ dealt v ∷ []) r (λ f. split-total f s.views id v at)
    (split-all (λ p. p.workers ≡ key.workers) s.views id v at r.knows)
    (split-all (LonePart s.words s.views) s.views id v at r.alone)
    (λ k. split-any (WroteLast k (get_or s.words (8 * k) 0)) s.views id v at)

pub joins : (key : GaugeKey) (id other : ℕ) (v w : View) → Joins (Gauged key) id v other w (joined v w) spent
joins key id other v w s r at ne at' =
    regrouped key s (set (set s.views id (joined v w)) other spent) r (λ f. join-total f s.views id other v w at at')
    (join-all (λ p. p.workers ≡ key.workers) s.views id other v w at ne at' r.knows)
    (join-all (LonePart s.words s.views) s.views id other v w at ne at' r.alone)
    (λ k. join-any (WroteLast k (get_or s.words (8 * k) 0)) s.views id other v w at ne at')
