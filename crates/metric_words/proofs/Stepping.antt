-- What the calls leave of a seat.
use Rattle.std.proofs.Common.{◌≡◌, ℕ, ◌+◌, ◌<◌, [], ◌∷◌, length, refl, ap, ◌∙◌, sym, subst, arith}
use Rattle.atomic_table.specs.Seated.{TableId}
use Rattle.atomic_table.specs.Table.{Me}
use Rattle.seat_parts.specs.Parts.{total, joined}
use Rattle.seat_parts.proofs.Cuts.{one-part}
use Rattle.metric_words.specs.declared.counter_view.CountKind.TheVariants.{Latch}
use Rattle.metric_words.specs.declared.counter_view.SeatRole.TheVariants.{Reader}
use Rattle.metric_words.specs.declared.counter_view.CountStep.{CountStep}
use Rattle.metric_words.specs.Counters.{View, new_part, longer, step_of, with_step, latches, seconds, own_part}
use Rattle.metric_words.specs.Known.{with_parts, known_of}
use Rattle.metric_words.specs.CounterLedger.{CounterKnown, counter_known, after_step, LatchedAll}
use Rattle.metric_words.proofs.Knowing.{known-after, known-joined, known-parts}
use Rattle.metric_words.proofs.CounterKeeps.{when-same}
use Rattle.metric_words.specs.declared.gauge_view.GaugeStep.{GaugeStep}
use Rattle.metric_words.specs.declared.gauge_seats.GaugeSeat.{GaugeSeat}
use Rattle.metric_words.specs.Gauges.{IsGaugeWord, HasAllSeats, new_gauge, longer_gauge, with_gauge_step}
use Rattle.metric_words.specs.GaugeLedger.{gauge_known, gauge_all, after_gauge_step, ReadsAll}
use Rattle.seat_parts.specs.declared.Parts.{Parts}
use Rattle.metric_words.specs.declared.gauge_view.GaugePart.{GaugePart}

abbrev Sat : Type 0
Sat = Me (Unit {0}) View

pub counter-after : (x : CountStep) (t t' : TableId) (m m' : Sat) → 0 < length m.0.parts → t' ≡ t → m' ≡ (with_step x m.0, m.1)
    → (counter_known t' m' ≡ after_step x (counter_known t m)) × (length m'.0.parts ≡ length m.0.parts) × (length m'.1 ≡ length m.1)
counter-after x t t' m m' h b e = known-after (new_part Reader 0 0) (longer x) t t' m m' h b e

-- both steps of an add
pub added : (x y : CountStep) (t t' t'' : TableId) (m m' m'' : Sat) → length m.0.parts ≡ 1 → t' ≡ t → m' ≡ (with_step x m.0, m.1) → t'' ≡ t' → m'' ≡ (with_step y m'.0, m'.1)
    → (counter_known t'' m'' ≡ after_step y (after_step x (counter_known t m))) × (length m''.0.parts ≡ length m.0.parts) × (length m''.1 ≡ length m.1)
added x y t t' t'' m m' m'' h b e b' e' =
    let a = counter-after x t t' m m' (omega arith) b e in let l = a.1 in let a' = counter-after y t' t'' m' m'' (omega arith) b' e' in
    (a'.0 ∙ ap (after_step y) a.0, a'.1 ∙ a.1, a'.2 ∙ a.2)

pub latched : (i r : ℕ) (k k' : CounterKnown) → k' ≡ after_step (step_of Latch i 0 r) k → (length k.taken ≡ k.own.workers → latches i k.own.steps + r ≡ total (λ p. seconds i p.steps) k.taken) → LatchedAll i k'
latched i r k k' e all = subst (λ z. LatchedAll i z) (sym e) (λ h. let a = all h in let w = when-same i i r refl in omega arith)

-- a seat that took in one of one part
pub taken-one : (t t' : TableId) (m m' : Sat) (w : View) → 0 < length m.0.parts → length w.parts ≡ 1 → t' ≡ t → m' ≡ (joined m.0 w, m.1)
    → (counter_known t' m' ≡ with_parts (own_part w ∷ []) (counter_known t m)) × (0 < length m'.0.parts) × (length m'.1 ≡ length m.1)
taken-one t t' m m' w h one b e = known-joined (new_part Reader 0 0) t t' m m' w (own_part w ∷ []) h b e (one-part (new_part Reader 0 0) w.parts one)

pub gauge-after : (s : GaugeSeat) (x : GaugeStep) (t : TableId) (m : Me (Unit {0}) (Parts GaugePart)) → t ≡ s.seat.table_id → m ≡ (with_gauge_step x s.seat.me.0, s.seat.me.1)
    → (known_of (new_gauge 0 0) t m ≡ after_gauge_step x (gauge_known s)) × (0 < length m.0.parts) × (length m.1 ≡ 0)
gauge-after s x t m b e = let l = s.leads in let h = l.0 in
    let a = known-after (new_gauge 0 0) (longer_gauge x) s.seat.table_id t s.seat.me m l.0 b e in let n = a.1 in
    (a.0, omega arith, a.2 ∙ l.1)

pub reads-all : (s : GaugeSeat) (id word : ℕ) → (HasAllSeats s.seat.me.0 → IsGaugeWord id s.seat.me.0.parts word) → ReadsAll id (gauge_known s) word
reads-all s id word all h = subst (λ ps. IsGaugeWord id ps word) (known-parts (new_gauge 0 0) s.seat.table_id s.seat.me s.leads.0) (all h)

-- a seat that took another in
pub gauge-joined : (s other : GaugeSeat) (t : TableId) (m : Me (Unit {0}) (Parts GaugePart)) → t ≡ s.seat.table_id → m ≡ (joined s.seat.me.0 other.seat.me.0, s.seat.me.1)
    → (known_of (new_gauge 0 0) t m ≡ with_parts (gauge_all other) (gauge_known s)) × (0 < length m.0.parts) × (length m.1 ≡ 0)
gauge-joined s other t m b e =
    let a = known-joined (new_gauge 0 0) s.seat.table_id t s.seat.me m other.seat.me.0 (gauge_all other) s.leads.0 b e (known-parts (new_gauge 0 0) other.seat.table_id other.seat.me other.leads.0) in
    (a.0, a.1, a.2 ∙ s.leads.1)
