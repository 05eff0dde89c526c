-- What callers may conclude from a gauge seat's list of steps.
use Rattle.std.proofs.Common.{◌≡◌, ℕ, ◌+◌, ◌%◌, ◌^◌, ◌≤◌, Bool, true, false, ◌==◌, List, ◌∷◌, ◌++◌, length, refl, ap, ◌∙◌, subst, arith, length-append}
use Rattle.std.proofs.Math.Seq.{get_or-append_seam}
use Rattle.seat_parts.proofs.Sums.{total-append, total-none}
use Rattle.metric_words.specs.declared.gauge_view.GaugeKind.{GaugeKind}
use Rattle.metric_words.specs.declared.gauge_view.GaugeKind.TheVariants.{Add, Sub, Set, Load}
use Rattle.metric_words.specs.declared.gauge_view.GaugeStep.{GaugeStep}
use Rattle.metric_words.specs.declared.gauge_view.GaugePart.{GaugePart}
use Rattle.metric_words.specs.Counters.{when}
use Rattle.metric_words.specs.Gauges.{counts, net_by, net, writes, write_by, written, fold_of, IsGaugeWord}
use Rattle.metric_words.specs.GaugeLaws.{writes_by, GaugeSumsGrow}

pub gauge-sums-grow : GaugeSumsGrow
gauge-sums-grow = record {
  net = λ k id n x kind steps. omega arith;
  written = λ k id n x kind steps. omega arith;
  fold = λ k id n x kind steps. refl;
}

-- a step that does not write counts nothing
counts-none : (kind : GaugeKind) (here : Bool) (n found : ℕ) → when here (writes kind) ≡ 0 → when here (counts kind n found) ≡ 0
counts-none kind false n found e = refl
counts-none Add true n found e = absurd (omega arith)
counts-none Sub true n found e = absurd (omega arith)
counts-none Set true n found e = absurd (omega arith)
counts-none Load true n found e = refl

net-none : (id : ℕ) (steps : List GaugeStep) → written id steps ≡ 0 → net id steps ≡ 0
net-none id steps e = total-none (net_by id) (write_by id) (λ _. Unit {0}) (λ s _ z. counts-none s.kind (s.id == id) s.n s.found z) steps (λ k d h. tt) e

pub unwritten : (id word : ℕ) (seats : List GaugePart) → IsGaugeWord id seats word → writes_by id seats ≡ 0 → word ≡ 0
unwritten id word seats w e =
    w.value ∙ ap (λ (z : ℕ). z % 2 ^ 64) (total-none (λ (p : GaugePart). net id p.steps) (λ p. written id p.steps) (λ _. Unit {0}) (λ p _ z. net-none id p.steps z) seats (λ k d h. tt) e)

pub one-writer : (id word : ℕ) (before behind : List GaugePart) (p : GaugePart) → IsGaugeWord id (before ++ p ∷ behind) word
    → writes_by id before ≡ 0 → writes_by id behind ≡ 0 → word ≡ fold_of id p.steps
one-writer id word before behind p w none none' =
    let seats : List GaugePart = before ++ p ∷ behind in let t = total-append (λ (q : GaugePart). written id q.steps) before (p ∷ behind) in let l = length-append before (p ∷ behind) in
    subst (λ q. writes_by id seats ≡ written id q.steps → word ≡ fold_of id q.steps) (get_or-append_seam before p behind p) (w.alone (length before) p (omega arith)) (omega arith)

-- so many seats of workers are all, whatever was taken in
pub all-given : (workers count taken : ℕ) → count ≡ workers → workers ≤ count + taken
all-given workers count taken e = omega arith
