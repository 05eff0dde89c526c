-- How the store's end makes the last of what the parties tell.
use Rattle.std.proofs.Common.{◌≡◌, ◌==◌, ℕ, Bool, List, [], ◌∷◌, ◌++◌, ap, sym, ◌∙◌, subst, arith, inl, inr, append_assoc}
use Rattle.std.proofs.lemmas.Bool.Decides.{eqb_tells}
use Rattle.std.proofs.lemmas.List.Elements.{All-nil, All-cons}
use Rattle.stat_defs.specs.declared.history.Entry.{Entry}
use Rattle.stat_defs.specs.declared.ids.MetricId.{MetricId}
use Rattle.seat_parts.specs.Parts.{total}
use Rattle.metric_words.specs.declared.counter_view.CountKind.TheVariants as count
use Rattle.metric_words.specs.declared.counter_view.CountPart.{CountPart}
use Rattle.metric_words.specs.declared.counter_view.CountStep.{CountStep}
use Rattle.metric_words.specs.Counters.{when, step_of, latches, seconds}
use Rattle.seat_history.specs.History.{entries_by}
use Rattle.seat_history.proofs.Logs.{past-goes-on, by-append, by-own}
use Rattle.ledger.proofs.Members.{all_as, all_pushed}
use Rattle.run_ledger.specs.Accounts.{IsLatched}
use Rattle.run_ledger.specs.Ends.{RunEnds}

still : (seats : List CountPart) (steps : List CountStep) (id other : MetricId) (units : ℕ) → IsLatched seats (step_of count.Latch id.0 0 units ∷ steps) id → IsLatched seats steps other
    → IsLatched seats (step_of count.Latch id.0 0 units ∷ steps) other
still seats steps id other units now before = elim (eqb_tells id.0 other.0) [
  | inl is ↦ subst (λ (k : ℕ). latches k (step_of count.Latch id.0 0 units ∷ steps) ≡ total (λ p. seconds k p.steps) seats) is.1 now
  | inr is ↦
      let none : ◌≡◌ {A = ℕ} (when (id.0 == other.0) units) 0 = ap (λ (t : Bool). when t units) is.0 in
      omega (arith, none, before)
]

pub run_ends : RunEnds
run_ends = record {
  latch = λ seats steps done id units all now.
      all_pushed (IsLatched seats (step_of count.Latch id.0 0 units ∷ steps)) done id
      (all_as (IsLatched seats steps) (IsLatched seats (step_of count.Latch id.0 0 units ∷ steps)) done (λ other before. still seats steps id other units now before) all) now;
  sweep = λ first log rest seat sweep whole history by_store.
      let n : ℕ = seat.number in
      let more : log ++ sweep ∷ [] ≡ first.log ++ (rest ++ sweep ∷ []) = ap (λ (l : List Entry). l ++ sweep ∷ []) whole ∙ append_assoc first.log rest (sweep ∷ []) in
      ap (entries_by n) (past-goes-on first.log (log ++ sweep ∷ []) (rest ++ sweep ∷ []) more)
      ∙ by-append n rest (sweep ∷ [])
      ∙ ap (λ (l : List Entry). entries_by n rest ++ l) (by-own n (sweep ∷ []) (All-cons (λ (e : Entry). e.seat ≡ n) sweep [] by_store (All-nil (λ (e : Entry). e.seat ≡ n))))
      ∙ ap (λ (l : List Entry). l ++ sweep ∷ []) (ap (entries_by n) (sym (past-goes-on first.log log rest whole)) ∙ history.made);
  word = λ id word own reader workers none none' is. record {
    before = own ∷ [];
    behind = reader ∷ [];
    idle = (omega (arith, none), omega (arith, none'));
    left = is;
  };
}
