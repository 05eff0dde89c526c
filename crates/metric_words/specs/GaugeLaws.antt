-- What callers may conclude from a gauge seat's list of steps, and of a gauge that one seat alone has written
-- (this project's own).
use Rattle.std.specs.Prelude.{◌≡◌, ℕ, ◌+◌, ◌==◌, List, ◌∷◌, ◌++◌}
use Rattle.seat_parts.specs.Parts.{total}
use Rattle.metric_words.specs.declared.gauge_view.GaugeKind.{GaugeKind}
use Rattle.metric_words.specs.declared.gauge_view.GaugeStep.{GaugeStep}
use Rattle.metric_words.specs.declared.gauge_view.GaugePart.{GaugePart}
use Rattle.metric_words.specs.Counters.{when, choose}
use Rattle.metric_words.specs.Gauges.{gauge_step, counts, net, writes, written, left_by, fold_of, IsGaugeWord}

-- what a step adds to the sums over a list, and what it leaves of the list's fold, for the gauge `k` and for
-- every other
pub record GaugeSumsGrow : Type 0 where
  pub net : (k id n x : ℕ) (kind : GaugeKind) (steps : List GaugeStep)
      → net k (gauge_step kind id n x ∷ steps) ≡ net k steps + when (id == k) (counts kind n x)
  pub written : (k id n x : ℕ) (kind : GaugeKind) (steps : List GaugeStep)
      → written k (gauge_step kind id n x ∷ steps) ≡ written k steps + when (id == k) (writes kind)
  pub fold : (k id n x : ℕ) (kind : GaugeKind) (steps : List GaugeStep)
      → fold_of k (gauge_step kind id n x ∷ steps)
      ≡ choose (id == k) (left_by kind n (fold_of k steps)) (fold_of k steps)

-- how many writes of the gauge these seats made
abbrev pub writes_by : ℕ → List GaugePart → ℕ
writes_by id seats = total (λ p. written id p.steps) seats

-- the word of a gauge that no seat has written, and of one that the seat p alone has written
pub record OneWriter : Type 0 where
  pub none : (id word : ℕ) (seats : List GaugePart) → IsGaugeWord id seats word
      → writes_by id seats ≡ 0 → word ≡ 0
  pub one : (id word : ℕ) (before behind : List GaugePart) (p : GaugePart)
      → IsGaugeWord id (before ++ p ∷ behind) word
      → writes_by id before ≡ 0 → writes_by id behind ≡ 0 → word ≡ fold_of id p.steps
