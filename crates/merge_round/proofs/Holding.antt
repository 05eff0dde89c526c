-- Tables hold the bins of lists of values.
use Rattle.std.proofs.Common.{◌≡◌, ◌≢◌, ℕ, ◌+◌, ◌^◌, ◌<◌, ◌≤◌, ◌||◌, Bool, true, false, cond, eqb, List, [], ◌∷◌, ◌++◌, refl, sym, subst, ap, ◌∙◌, arith, append-nil, length, length-append, vec_len, inl, inr}
use Rattle.std.specs.List.{list_any}
use Rattle.std.proofs.lemmas.Grind.{flat_map-append}
use Rattle.std.proofs.lemmas.List.Folds.{list_any-append}
use Rattle.std.proofs.Math.Bool.{or_comm}
use Rattle.std.proofs.lemmas.Bool.{eq-eqb, ne_eqb, cases_eq}
use Rattle.std.proofs.lemmas.List.Elements.{All-nil, All-push, All-append}
use Rattle.stat_defs.specs.declared.bins.BinCount.{BinCount}
use Rattle.merge_round.specs.Halves.{HalfState, no_bins, with_value, with_warm}
use Rattle.merge_round.specs.Rounds.{ParentsState, both, worker_values, round_values, all_values}
use Rattle.merge_round.specs.Kept.{Holds, IsHalf, parts_in, HasSameBins, IsMerged, HasFew, AreParents}
use Rattle.merge_round.specs.declared.merged.Merged.{Merged}
use Rattle.loglinear_bins.specs.declared.place.TheConstants.{MAX_COUNT}
use Rattle.merge_round.specs.Slots.{Slots, bins_at, is_warm_at}
use Rattle.merge_round.specs.declared.half.TheConstants.{MAX_HALF_COUNT}
use Rattle.merge_round.proofs.ByValues.{bins_by-none, bins_by-more, both-together}
use Rattle.merge_round.proofs.Totals.{same_at_most, none_at_most, recorded_at_most, merged_at_most}

pub holds-none : (bins : ℕ → List BinCount) (n : ℕ) → bins ≡ no_bins → Holds bins n []
holds-none bins n e = record { are = e ∙ sym bins_by-none; few = none_at_most bins n e; small = All-nil (λ (p : ℕ × ℕ). p.1 < 2 ^ 64) }

pub holds-same : (new old : ℕ → List BinCount) (n m : ℕ) (values all : List (ℕ × ℕ)) → new ≡ old → n ≤ m → all ≡ values → Holds old n values → Holds new m all
holds-same new old n m values all e le is h = subst (Holds new m) (sym is) record {
  are = e ∙ h.are;
  few = λ id. (let f = same_at_most new old n e h.few id in omega arith);
  small = h.small;
}

pub holds-value : (new old : ℕ → List BinCount) (n id v : ℕ) (values : List (ℕ × ℕ)) → new ≡ with_value old id v → v < 2 ^ 64 → Holds old n values → Holds new (n + 1) (values ++ (id, v) ∷ [])
holds-value new old n id v values e small h = record {
  are = e ∙ (ap (λ (b : ℕ → List BinCount). with_value b id v) h.are ∙ bins_by-more values id v);
  few = recorded_at_most new old id v n e h.few;
  small = All-push (λ (p : ℕ × ℕ). p.1 < 2 ^ 64) values (id, v) h.small small;
}

pub holds-more : (new old more : ℕ → List BinCount) (n m : ℕ) (values vs all : List (ℕ × ℕ)) → new ≡ both old more → all ≡ values ++ vs → Holds old n values → Holds more m vs → Holds new (n + m) all
holds-more new old more n m values vs all e is h k = subst (Holds new (n + m)) (sym is) record {
  are = e ∙ ((λ i. both (h.are i) (k.are i)) ∙ both-together values vs h.small k.small);
  few = merged_at_most new old more n m e h.few k.few;
  small = All-append (λ (p : ℕ × ℕ). p.1 < 2 ^ 64) values vs h.small k.small;
}

-- ---- which histograms are warm

or_none : (b : Bool) → (b || false) ≡ b
or_none true = refl
or_none false = refl

pub touched-more : (warm : ℕ → Bool) (touched : List ℕ) (id : ℕ) → ((k : ℕ) → warm k ≡ list_any (λ other. eqb k other) touched)
    → (k : ℕ) → with_warm warm id k ≡ list_any (λ other. eqb k other) (touched ++ id ∷ [])
touched-more warm touched id h k =
    ap (λ b. eqb k id || b) (h k) ∙ (or_comm (eqb k id) (list_any (λ other. eqb k other) touched)
    ∙ (ap (λ b. list_any (λ other. eqb k other) touched || b) (sym (or_none (eqb k id))) ∙ sym (list_any-append (λ other. eqb k other) touched (id ∷ []))))

-- ---- one half more

pub worker_values-same : (worker : ℕ) (round : List (ℕ × HalfState)) (half : HalfState) → worker_values worker (round ++ (worker, half) ∷ []) ≡ worker_values worker round ++ half.values
worker_values-same worker round half =
    flat_map-append (λ (h : ℕ × HalfState). cond (eqb h.0 worker) h.1.values []) round ((worker, half) ∷ [])
    ∙ ap (λ l. worker_values worker round ++ l) (ap (λ b. cond b half.values [] ++ []) (eq-eqb worker worker refl) ∙ append-nil half.values)

pub worker_values-other : (worker other : ℕ) (round : List (ℕ × HalfState)) (half : HalfState) → other ≢ worker → worker_values other (round ++ (worker, half) ∷ []) ≡ worker_values other round
worker_values-other worker other round half differs =
    flat_map-append (λ (h : ℕ × HalfState). cond (eqb h.0 other) h.1.values []) round ((worker, half) ∷ [])
    ∙ (ap (λ l. worker_values other round ++ l) (ap (λ b. cond b half.values [] ++ []) (ne_eqb worker other (λ e. differs (sym e)))) ∙ append-nil (worker_values other round))

pub round_values-more : (worker : ℕ) (round : List (ℕ × HalfState)) (half : HalfState) → round_values (round ++ (worker, half) ∷ []) ≡ round_values round ++ half.values
round_values-more worker round half = flat_map-append (λ (h : ℕ × HalfState). h.1.values) round ((worker, half) ∷ []) ∙ ap (λ l. round_values round ++ l) (append-nil half.values)

pub all_values-more : (all : List HalfState) (half : HalfState) → all_values (all ++ half ∷ []) ≡ all_values all ++ half.values
all_values-more all half = flat_map-append (λ (h : HalfState). h.values) all (half ∷ []) ∙ ap (λ l. all_values all ++ l) (append-nil half.values)

-- ---- halves

pub half-same : (new old : Slots) (n : ℕ) (half : HalfState) → bins_at new ≡ bins_at old → is_warm_at new ≡ is_warm_at old → IsHalf old n half → IsHalf new n half
half-same new old n half bins warm h = record {
  holds = holds-same (bins_at new) (bins_at old) n n half.values half.values bins (omega arith) refl h.holds;
  warm = λ k. ap (λ f. f k) warm ∙ h.warm k;
  number = h.number;
  limit = h.limit;
}

-- one value more
pub half-more : (new mid old : Slots) (n id v : ℕ) (half : HalfState) (values : List (ℕ × ℕ)) (touched : List ℕ) → bins_at new ≡ with_value (bins_at mid) id v → bins_at mid ≡ bins_at old
    → is_warm_at new ≡ is_warm_at mid → is_warm_at mid ≡ with_warm (is_warm_at old) id → values ≡ half.values ++ (id, v) ∷ [] → touched ≡ half.touched ++ id ∷ []
    → v < 2 ^ 64 → n < MAX_HALF_COUNT → IsHalf old n half → IsHalf new (n + 1) (record { values = values; touched = touched })
half-more new mid old n id v half values touched bins before warm first vs ts small few h = subst (λ l. IsHalf new (n + 1) (record { values = l; touched = touched })) (sym vs)
    (subst (λ l. IsHalf new (n + 1) (record { values = half.values ++ (id, v) ∷ []; touched = l })) (sym ts) record {
      holds = holds-value (bins_at new) (bins_at old) n id v half.values (bins ∙ ap (λ b. with_value b id v) before) small h.holds;
      warm = λ k. ap (λ f. f k) (warm ∙ first) ∙ touched-more (is_warm_at old) half.touched id h.warm k;
      number = omega (arith, h.number, length-append half.values ((id, v) ∷ []));
      limit = omega arith;
    })

pub half-none : (new old : Slots) (n : ℕ) (half : HalfState) (values : List (ℕ × ℕ)) → bins_at new ≡ no_bins → is_warm_at new ≡ is_warm_at old → values ≡ [] → IsHalf old n half
    → IsHalf new 0 (record { values = values; touched = half.touched })
half-none new old n half values bins warm none h = subst (λ l. IsHalf new 0 (record { values = l; touched = half.touched })) (sym none) record {
  holds = holds-none (bins_at new) 0 bins;
  warm = λ k. ap (λ f. f k) warm ∙ h.warm k;
  number = refl;
  limit = omega arith;
}

-- ---- parents

pub few-of : (merged old : Merged) (n : ℕ) (parents : ParentsState) → HasSameBins old merged → AreParents old n parents → HasFew merged n
few-of merged old n parents same h = record {
  parts = λ w. same_at_most (parts_in merged w) (parts_in old w) n (same.parts w) (h.parts w).few;
  interval = same_at_most (bins_at merged.interval) (bins_at old.interval) n same.interval h.interval.few;
  cumulative = same_at_most (bins_at merged.cumulative) (bins_at old.cumulative) n same.cumulative h.cumulative.few;
}

pub parents-same : (new old : Merged) (n : ℕ) (parents : ParentsState) → HasSameBins old new → AreParents old n parents → AreParents new n parents
parents-same new old n parents same h = record {
  parts = λ w. holds-same (parts_in new w) (parts_in old w) n n _ _ (same.parts w) (omega arith) refl (h.parts w);
  interval = holds-same (bins_at new.interval) (bins_at old.interval) n n _ _ same.interval (omega arith) refl h.interval;
  cumulative = holds-same (bins_at new.cumulative) (bins_at old.cumulative) n n _ _ same.cumulative (omega arith) refl h.cumulative;
  number = h.number;
  limit = h.limit;
  workers = same.workers h.workers;
}

-- one half more
pub parents-more : (new old : Merged) (tables : Slots) (worker n m : ℕ) (half : HalfState) (parents : ParentsState) (round : List (ℕ × HalfState)) (all : List HalfState)
    → IsMerged worker (bins_at tables) old new → IsHalf tables m half → AreParents old n parents → round ≡ parents.round ++ (worker, half) ∷ [] → all ≡ parents.all ++ half ∷ [] → n + m ≤ MAX_COUNT
    → AreParents new (n + m) (record { round = round; all = all })
parents-more new old tables worker n m half parents round all merged k h rs alls few =
    subst (λ l. AreParents new (n + m) (record { round = l; all = all })) (sym rs) (subst (λ l. AreParents new (n + m) (record { round = parents.round ++ (worker, half) ∷ []; all = l })) (sym alls) record {
      parts = λ w. elim (cases_eq w worker) [
        | inl same ↦ subst (λ (x : ℕ). Holds (parts_in new x) (n + m) (worker_values x (parents.round ++ (worker, half) ∷ []))) (sym same)
            (holds-more (parts_in new worker) (parts_in old worker) (bins_at tables) n m _ half.values _ merged.part (worker_values-same worker parents.round half) (h.parts worker) k.holds)
        | inr differs ↦ holds-same (parts_in new w) (parts_in old w) n (n + m) _ _ (merged.others w differs) (omega arith) (worker_values-other worker w parents.round half differs) (h.parts w)
      ];
      interval = holds-more (bins_at new.interval) (bins_at old.interval) (bins_at tables) n m _ half.values _ merged.interval (round_values-more worker parents.round half) h.interval k.holds;
      cumulative = holds-more (bins_at new.cumulative) (bins_at old.cumulative) (bins_at tables) n m _ half.values _ merged.cumulative (all_values-more parents.all half) h.cumulative k.holds;
      number = omega (arith, h.number, k.number, ap length (all_values-more parents.all half), length-append (all_values parents.all) half.values);
      limit = few;
      workers = (let w = h.workers in let e = merged.workers in omega arith);
    })

pub parents-none : (new old : Merged) (n : ℕ) (parents : ParentsState) (round : List (ℕ × HalfState)) → ((worker : ℕ) → parts_in new worker ≡ no_bins) → bins_at new.interval ≡ no_bins
    → new.cumulative ≡ old.cumulative → vec_len new.workers ≡ vec_len old.workers → round ≡ [] → AreParents old n parents → AreParents new n (record { round = round; all = parents.all })
parents-none new old n parents round parts interval cumulative workers none h = subst (λ l. AreParents new n (record { round = l; all = parents.all })) (sym none) record {
  parts = λ w. holds-none (parts_in new w) n (parts w);
  interval = holds-none (bins_at new.interval) n interval;
  cumulative = holds-same (bins_at new.cumulative) (bins_at old.cumulative) n n _ _ (ap bins_at cumulative) (omega arith) refl h.cumulative;
  number = h.number;
  limit = h.limit;
  workers = (let w = h.workers in omega arith);
}
