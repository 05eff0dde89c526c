-- One latch or load more behind those of a list.
use Rattle.std.proofs.Common.{◌≡◌, ℕ, ◌==◌, Bool, true, false, List, [], ◌∷◌, ◌++◌, refl, ap, sym, ◌∙◌, subst, arith, All, length, ◌+◌}
use Rattle.std.proofs.lemmas.Bool.Decides.{Decides-eqb}
use Rattle.std.proofs.lemmas.List.Elements.{All-nil, All-cons, All-append, All-weaker}
use Rattle.seat_parts.specs.Parts.{total}
use Rattle.stat_defs.specs.declared.reports.Delta.{Delta}
use Rattle.stat_defs.specs.declared.reports.Reading.{Reading}
use Rattle.metric_words.specs.declared.counter_view.CountKind.TheVariants as count
use Rattle.metric_words.specs.declared.gauge_view.GaugeKind.TheVariants as gauge
use Rattle.metric_words.specs.declared.counter_view.CountPart.{CountPart}
use Rattle.metric_words.specs.Known.{with_parts}
use Rattle.metric_words.specs.Counters.{when, step_of, seconds, latches}
use Rattle.metric_words.specs.CounterLedger.{CounterKnown, after_step, LatchedAll}
use Rattle.metric_words.proofs.CounterLaws.{sums-grow}
use Rattle.metric_words.specs.declared.gauge_view.GaugePart.{GaugePart}
use Rattle.metric_words.specs.Gauges.{gauge_step, written, IsGaugeWord}
use Rattle.metric_words.specs.GaugeLedger.{GaugeKnown, after_gauge_step, ReadsAll}
use Rattle.flush_words.specs.Words.{after_latches, after_loads, after_gauge_loads}
use Rattle.flush_words.specs.Ends.{IsLastWord}

abbrev latch_step : Delta → CounterKnown → CounterKnown
latch_step d k = after_step (step_of count.Latch d.id.0 0 d.n) k

latches-end : (ds : List Delta) (d : Delta) (k : CounterKnown) → after_latches (ds ++ d ∷ []) k ≡ latch_step d (after_latches ds k)
latches-end [] d k = refl
latches-end (x ∷ ds) d k = latches-end ds d (latch_step x k)

loads-end : (rs : List Reading) (r : Reading) (k : CounterKnown) → after_loads (rs ++ r ∷ []) k ≡ after_step (step_of count.Load r.id.0 0 r.word) (after_loads rs k)
loads-end [] r k = refl
loads-end (x ∷ rs) r k = loads-end rs r (after_step (step_of count.Load x.id.0 0 x.word) k)

gauge_loads-end : (rs : List Reading) (r : Reading) (k : GaugeKnown) → after_gauge_loads (rs ++ r ∷ []) k ≡ after_gauge_step (gauge_step gauge.Load r.id.0 0 r.word) (after_gauge_loads rs k)
gauge_loads-end [] r k = refl
gauge_loads-end (x ∷ rs) r k = gauge_loads-end rs r (after_gauge_step (gauge_step gauge.Load x.id.0 0 x.word) k)

pub latch-pushed : (ds new : List Delta) (d : Delta) (first k k' : CounterKnown) → new ≡ ds ++ d ∷ [] → k ≡ after_latches ds first → k' ≡ latch_step d k → k' ≡ after_latches new first
latch-pushed ds new d first k k' push so_far step = step ∙ (ap (latch_step d) so_far ∙ sym (ap (λ (l : List Delta). after_latches l first) push ∙ latches-end ds d first))

pub load-pushed : (rs new : List Reading) (r : Reading) (first k k' : CounterKnown) → new ≡ rs ++ r ∷ [] → k ≡ after_loads rs first
    → k' ≡ after_step (step_of count.Load r.id.0 0 r.word) k → k' ≡ after_loads new first
load-pushed rs new r first k k' push so_far step =
    step ∙ (ap (after_step (step_of count.Load r.id.0 0 r.word)) so_far ∙ sym (ap (λ (l : List Reading). after_loads l first) push ∙ loads-end rs r first))

pub gauge_load-pushed : (rs new : List Reading) (r : Reading) (first k k' : GaugeKnown) → new ≡ rs ++ r ∷ [] → k ≡ after_gauge_loads rs first
    → k' ≡ after_gauge_step (gauge_step gauge.Load r.id.0 0 r.word) k → k' ≡ after_gauge_loads new first
gauge_load-pushed rs new r first k k' push so_far step =
    step ∙ (ap (after_gauge_step (gauge_step gauge.Load r.id.0 0 r.word)) so_far ∙ sym (ap (λ (l : List Reading). after_gauge_loads l first) push ∙ gauge_loads-end rs r first))

-- the seat stays one of its bank, with the workers' seats that it had taken in
pub latches-keep : (ds : List Delta) (k : CounterKnown) → ((after_latches ds k).taken ≡ k.taken) × ((after_latches ds k).own.workers ≡ k.own.workers) × ((after_latches ds k).bank ≡ k.bank)
latches-keep [] k = (refl, refl, refl)
latches-keep (d ∷ ds) k = latches-keep ds (latch_step d k)

-- the steps are the same whatever seats it took in before
pub latched-anyway : (ds : List Delta) (parts : List CountPart) (k : CounterKnown) → (after_latches ds (with_parts parts k)).own.steps ≡ (after_latches ds k).own.steps
latched-anyway [] parts k = refl
latched-anyway (d ∷ ds) parts k = latched-anyway ds parts (latch_step d k)

-- a latch that leaves its own counter whole leaves every other one as it is
other-whole : (k : CounterKnown) (d : Delta) (id : ℕ) → LatchedAll d.id.0 (latch_step d k) → LatchedAll id k → LatchedAll id (latch_step d k)
other-whole k d id here before all = by-same (d.id.0 == id) refl where
  by-same : (t : Bool) → (d.id.0 == id) ≡ t → latches id (latch_step d k).own.steps ≡ total (λ p. seconds id p.steps) k.taken
  by-same true e = subst (λ (j : ℕ). latches j (latch_step d k).own.steps ≡ total (λ p. seconds j p.steps) k.taken) ((Decides-eqb d.id.0 id).0 e) (here all)
  by-same false e = sums-grow.latch id d.id.0 d.n k.own.steps ∙ (let none = ap (λ (t : Bool). when t d.n) e in let was = before all in omega (arith, none, was))

pub whole-pushed : (ds new : List Delta) (d : Delta) (k k' : CounterKnown) → new ≡ ds ++ d ∷ [] → k' ≡ latch_step d k → All (λ x. LatchedAll x.id.0 k) ds → LatchedAll d.id.0 k'
    → All (λ x. LatchedAll x.id.0 k') new
whole-pushed ds new d k k' push step all here =
    subst (λ (l : List Delta). All (λ x. LatchedAll x.id.0 k') l) (sym push)
    (All-append (λ (x : Delta). LatchedAll x.id.0 k') ds (d ∷ [])
    (All-weaker (λ (x : Delta). LatchedAll x.id.0 k) (λ (x : Delta). LatchedAll x.id.0 k')
    (λ x before. subst (λ (z : CounterKnown). LatchedAll x.id.0 z) (sym step) (other-whole k d x.id.0 (subst (λ (z : CounterKnown). LatchedAll d.id.0 z) step here) before)) ds all)
    (All-cons (λ (x : Delta). LatchedAll x.id.0 k') d [] here (All-nil (λ (x : Delta). LatchedAll x.id.0 k'))))

when-none : (t : Bool) → when t 0 ≡ 0
when-none true = refl
when-none false = refl

-- loads write nothing, and leave the seats that were taken in
pub loads-write-none : (rs : List Reading) (k : GaugeKnown) (id : ℕ) → written id (after_gauge_loads rs k).own.steps ≡ written id k.own.steps
loads-write-none [] k id = refl
loads-write-none (r ∷ rs) k id =
    let rest = loads-write-none rs (after_gauge_step (gauge_step gauge.Load r.id.0 0 r.word) k) id in let none = when-none (r.id.0 == id) in omega (arith, rest, none)

pub loads-keep : (rs : List Reading) (k : GaugeKnown) → ((after_gauge_loads rs k).taken ≡ k.taken) × ((after_gauge_loads rs k).own.workers ≡ k.own.workers)
loads-keep [] k = (refl, refl)
loads-keep (r ∷ rs) k = loads-keep rs (after_gauge_step (gauge_step gauge.Load r.id.0 0 r.word) k)

pub last-pushed : (rs new : List Reading) (r : Reading) (first k : GaugeKnown) → new ≡ rs ++ r ∷ [] → k ≡ after_gauge_loads rs first
    → length first.taken ≡ first.own.workers + 1 → ReadsAll r.id.0 k r.word → All (IsLastWord first) rs → All (IsLastWord first) new
last-pushed rs new r first k push so_far whole reads all =
    subst (λ (l : List Reading). All (IsLastWord first) l) (sym push) (All-append (IsLastWord first) rs (r ∷ []) all (All-cons (IsLastWord first) r [] here (All-nil (IsLastWord first)))) where
      kept : (k.taken ≡ first.taken) × (k.own.workers ≡ first.own.workers)
      kept = (ap (λ z. z.taken) so_far ∙ (loads-keep rs first).0, ap (λ z. z.own.workers) so_far ∙ (loads-keep rs first).1)

      here : IsLastWord first r
      here = record {
        own = k.own;
        idle = λ id. ap (λ z. written id z.own.steps) so_far ∙ loads-write-none rs first id;
        word = subst (λ (l : List GaugePart). IsGaugeWord r.id.0 (k.own ∷ l) r.word) kept.0 (reads (ap length kept.0 ∙ (whole ∙ sym (ap (λ (n : ℕ). n + 1) kept.1))));
      }
