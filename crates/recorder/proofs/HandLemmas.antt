-- What an event with its verdict makes of a hand.
use Rattle.std.proofs.Common.{◌≡◌, ℕ, ◌+◌, ◌≤◌, List, [], ◌∷◌, length, length-append, IsTrue, refl, ap, sym, ◌∙◌, subst, arith}
use Rattle.stat_defs.specs.declared.events.Event.{Event}
use Rattle.stat_defs.specs.declared.events.Event.TheVariants as event
use Rattle.stat_defs.specs.declared.events.GaugeOp.{GaugeOp}
use Rattle.stat_defs.specs.declared.ids.MetricId.{MetricId}
use Rattle.stat_defs.specs.declared.ids.Mode.{Mode}
use Rattle.stat_defs.specs.declared.history.Verdict.{Verdict}
use Rattle.stat_defs.specs.declared.history.Verdict.TheVariants as verdict
use Rattle.merge_round.specs.Halves.{HalfState, is_warm_in}
use Rattle.metric_words.specs.declared.counter_seats.WorkerSeat.{WorkerSeat}
use Rattle.metric_words.specs.declared.gauge_seats.GaugeSeat.{GaugeSeat}
use Rattle.metric_words.specs.declared.counter_view.CountKind.TheVariants.{First, Second}
use Rattle.metric_words.specs.declared.counter_view.CountStep.{CountStep}
use Rattle.metric_words.specs.declared.gauge_view.GaugeStep.{GaugeStep}
use Rattle.metric_words.specs.Counters.{step_of}
use Rattle.metric_words.specs.CounterLedger.{CounterKnown, worker_known, worker_part, after_step}
use Rattle.metric_words.specs.Gauges.{gauge_step}
use Rattle.metric_words.specs.GaugeLedger.{GaugeKnown, gauge_known, gauge_part, after_gauge_step}
use Rattle.half_side.specs.Halves.{HalfKnown, after_recording}
use Rattle.run_ledger.specs.Grows.{Adds, Moves, Records, kind_of}
use Rattle.recorder.specs.declared.hand.Hand.{Hand}
use Rattle.recorder.specs.Acting.{active_after, IsSure}
use Rattle.recorder.specs.Hands.{Acts, with_steps, with_moves}

pub acts_as : (e e' : Event) (v v' : Verdict) (old new : Hand) → e ≡ e' → v ≡ v' → Acts (e', v') old new → Acts (e, v) old new
acts_as e e' v v' old new e_is v_is acts = subst (λ (x : Event). Acts (x, v) old new) (sym e_is) (subst (λ (x : Verdict). Acts (e', x) old new) (sym v_is) acts)

pub acts_inc : (label name : List ℕ) (n : ℕ) (id : MetricId) (old : Hand) (counts : WorkerSeat) (x y : ℕ)
    → worker_known counts ≡ after_step (step_of Second id.0 n y) (after_step (step_of First id.0 n x) (worker_known old.counts))
    → Acts (event.Inc label name n, verdict.Accepted id) old (record old { counts = counts })
acts_inc label name n id old counts x y made = record {
  adds = (x, y, ap (λ (k : CounterKnown). k.own.steps) made);
  moves = refl;
  records = refl;
  counts = made ∙ ap (λ (l : List CountStep). with_steps l (worker_known old.counts)) (sym (ap (λ (k : CounterKnown). k.own.steps) made));
  gauges = refl;
  cell = refl;
  active = refl;
}

pub acts_gauge : (label name : List ℕ) (mode : Mode) (op : GaugeOp) (n : ℕ) (id : MetricId) (old : Hand) (gauges : GaugeSeat) (x : ℕ)
    → gauge_known gauges ≡ after_gauge_step (gauge_step (kind_of op) id.0 n x) (gauge_known old.gauges)
    → Acts (event.Gauge label name mode op n, verdict.Accepted id) old (record old { gauges = gauges })
acts_gauge label name mode op n id old gauges x made = record {
  adds = refl;
  moves = (x, ap (λ (k : GaugeKnown). k.own.steps) made);
  records = refl;
  counts = refl;
  gauges = made ∙ ap (λ (l : List GaugeStep). with_moves l (gauge_known old.gauges)) (sym (ap (λ (k : GaugeKnown). k.own.steps) made));
  cell = refl;
  active = refl;
}

pub acts_rec : (label name : List ℕ) (v : ℕ) (id : MetricId) (old : Hand) (side : HalfKnown) → side ≡ after_recording id.0 v old.side
    → Acts (event.Rec label name v, verdict.Accepted id) old (record old { side = side })
acts_rec label name v id old side made = record {
  adds = refl;
  moves = refl;
  records = ap (λ (k : HalfKnown). k.active.values) made;
  counts = refl;
  gauges = refl;
  cell = ap (λ (k : HalfKnown). k.cell) made;
  active = ap (λ (k : HalfKnown). k.active) made;
}

pub quiet : (told : Event × Verdict) (h : Hand) → Adds told (worker_part h.counts).steps (worker_part h.counts).steps
    → Moves told (gauge_part h.gauges).steps (gauge_part h.gauges).steps → Records told h.side.active.values h.side.active.values
    → h.side.active ≡ active_after told h.side.active → Acts told h h
quiet told h adds moves records active = record { adds = adds; moves = moves; records = records; counts = refl; gauges = refl; cell = refl; active = active }

-- a verdict that does not accept makes nothing
pub none_acts : (e : Event) (v : Verdict) (h : Hand) → ((id : MetricId) → v ≡ verdict.Accepted id → ⊥) → Acts (e, v) h h
none_acts (event.Inc label name n) (verdict.Accepted id) h not = absurd (not id refl)
none_acts (event.Inc label name n) (verdict.Opened id) h not = quiet (event.Inc label name n, verdict.Opened id) h refl refl refl refl
none_acts (event.Inc label name n) (verdict.Released id) h not = quiet (event.Inc label name n, verdict.Released id) h refl refl refl refl
none_acts (event.Inc label name n) verdict.LabelTaken h not = quiet (event.Inc label name n, verdict.LabelTaken) h refl refl refl refl
none_acts (event.Inc label name n) verdict.NoScope h not = quiet (event.Inc label name n, verdict.NoScope) h refl refl refl refl
none_acts (event.Inc label name n) verdict.Rejected h not = quiet (event.Inc label name n, verdict.Rejected) h refl refl refl refl
none_acts (event.Inc label name n) verdict.OverLimit h not = quiet (event.Inc label name n, verdict.OverLimit) h refl refl refl refl
none_acts (event.Inc label name n) verdict.NoRoom h not = quiet (event.Inc label name n, verdict.NoRoom) h refl refl refl refl
none_acts (event.Gauge label name mode op n) (verdict.Accepted id) h not = absurd (not id refl)
none_acts (event.Gauge label name mode op n) (verdict.Opened id) h not = quiet (event.Gauge label name mode op n, verdict.Opened id) h refl refl refl refl
none_acts (event.Gauge label name mode op n) (verdict.Released id) h not = quiet (event.Gauge label name mode op n, verdict.Released id) h refl refl refl refl
none_acts (event.Gauge label name mode op n) verdict.LabelTaken h not = quiet (event.Gauge label name mode op n, verdict.LabelTaken) h refl refl refl refl
none_acts (event.Gauge label name mode op n) verdict.NoScope h not = quiet (event.Gauge label name mode op n, verdict.NoScope) h refl refl refl refl
none_acts (event.Gauge label name mode op n) verdict.Rejected h not = quiet (event.Gauge label name mode op n, verdict.Rejected) h refl refl refl refl
none_acts (event.Gauge label name mode op n) verdict.OverLimit h not = quiet (event.Gauge label name mode op n, verdict.OverLimit) h refl refl refl refl
none_acts (event.Gauge label name mode op n) verdict.NoRoom h not = quiet (event.Gauge label name mode op n, verdict.NoRoom) h refl refl refl refl
none_acts (event.Rec label name n) (verdict.Accepted id) h not = absurd (not id refl)
none_acts (event.Rec label name n) (verdict.Opened id) h not = quiet (event.Rec label name n, verdict.Opened id) h refl refl refl refl
none_acts (event.Rec label name n) (verdict.Released id) h not = quiet (event.Rec label name n, verdict.Released id) h refl refl refl refl
none_acts (event.Rec label name n) verdict.LabelTaken h not = quiet (event.Rec label name n, verdict.LabelTaken) h refl refl refl refl
none_acts (event.Rec label name n) verdict.NoScope h not = quiet (event.Rec label name n, verdict.NoScope) h refl refl refl refl
none_acts (event.Rec label name n) verdict.Rejected h not = quiet (event.Rec label name n, verdict.Rejected) h refl refl refl refl
none_acts (event.Rec label name n) verdict.OverLimit h not = quiet (event.Rec label name n, verdict.OverLimit) h refl refl refl refl
none_acts (event.Rec label name n) verdict.NoRoom h not = quiet (event.Rec label name n, verdict.NoRoom) h refl refl refl refl
none_acts (event.SetText label name text) v h not = quiet (event.SetText label name text, v) h refl refl refl refl
none_acts (event.OpenScope label prefix) v h not = quiet (event.OpenScope label prefix, v) h refl refl refl refl
none_acts (event.Release label) v h not = quiet (event.Release label, v) h refl refl refl refl

-- a sure recording is one in a warm histogram
pub rec_sure : (e : Event) (label name : List ℕ) (v : ℕ) (w : Verdict) (id : MetricId) (half : HalfState) → e ≡ event.Rec label name v → w ≡ verdict.Accepted id → IsSure e w half
    → IsTrue (is_warm_in half id.0)
rec_sure e label name v w id half event_is verdict_is sure =
    subst (λ (x : Event). IsSure x (verdict.Accepted id) half → IsTrue (is_warm_in half id.0)) (sym event_is) (λ s. s) (subst (λ (x : Verdict). IsSure e x half) verdict_is sure)

-- at most one value more
pub few_more : (e : Event) (v : Verdict) (half : HalfState) → length (active_after (e, v) half).values ≤ length half.values + 1
few_more (event.Inc label name n) v half = omega arith
few_more (event.Gauge label name mode op n) v half = omega arith
few_more (event.Rec label name n) (verdict.Accepted id) half = let l = length-append half.values ((id.0, n) ∷ []) in omega (arith, l)
few_more (event.Rec label name n) (verdict.Opened id) half = omega arith
few_more (event.Rec label name n) (verdict.Released id) half = omega arith
few_more (event.Rec label name n) verdict.LabelTaken half = omega arith
few_more (event.Rec label name n) verdict.NoScope half = omega arith
few_more (event.Rec label name n) verdict.Rejected half = omega arith
few_more (event.Rec label name n) verdict.OverLimit half = omega arith
few_more (event.Rec label name n) verdict.NoRoom half = omega arith
few_more (event.SetText label name text) v half = omega arith
few_more (event.OpenScope label prefix) v half = omega arith
few_more (event.Release label) v half = omega arith
