-- The last words of the banks, as the store's end tells them.
use Rattle.std.proofs.Common.{◌≡◌, ◌<◌, ℕ, List, [], ◌∷◌, ◌++◌, map, ap, sym, ◌∙◌, subst}
use Rattle.std.specs.Prelude.{All}
use Rattle.std.specs.List.{AllByRecursion}
use Rattle.std.proofs.lemmas.List.Elements.{All-weaker, recursion_from_All}
use Rattle.stat_defs.specs.declared.ids.MetricId.{MetricId}
use Rattle.stat_defs.specs.declared.reports.Reading.{Reading}
use Rattle.book_state.specs.declared.limits.TheConstants.{MAX_METRICS}
use Rattle.metric_words.specs.declared.counter_seats.WordSeats.{WordSeats}
use Rattle.metric_words.specs.declared.gauge_view.GaugePart.{GaugePart}
use Rattle.metric_words.specs.CounterLedger.{worker_part, flush_known, read_known}
use Rattle.metric_words.specs.Gauges.{written, IsGaugeWord}
use Rattle.metric_words.specs.GaugeLedger.{GaugeKnown}
use Rattle.metric_words.specs.Known.{with_parts}
use Rattle.flush_words.specs.declared.counter_ends.CounterEnds.{CounterEnds}
use Rattle.flush_words.specs.Ends.{CountersEnd, IsAllLatched, IsLastWord, latched_steps}
use Rattle.run_ledger.specs.Accounts.{LeftBy}
use Rattle.run_ledger.proofs.Ends.{run_ends}
use Rattle.store_closing.specs.Pieces.{EndsCounters}

pub ends_counters : (size : ℕ) (s : WordSeats) (ids : List MetricId) (ends : CounterEnds) → size ≡ MAX_METRICS → CountersEnd size s ids ends
    → EndsCounters (map worker_part s.workers.items) (flush_known s.flusher) (read_known s.reader) ends.deltas.items
ends_counters size s ids ends same is = record {
  latched = recursion_from_All (IsAllLatched (map worker_part s.workers.items) (latched_steps s ends.deltas.items)) ends.deltas.items is.latched;
  each = λ id within.
      let there : id < size = subst (λ (n : ℕ). id < n) (sym same) within in
      record { value = _; pending = _; end = is.each id there; rises = is.rises id there };
}

-- the words that a seat loads which has taken in the workers' seats and the reader's
pub left_words : (k k0 : GaugeKnown) (parts workers : List GaugePart) (reader : GaugePart) (list : List Reading) → k ≡ with_parts parts k0 → k0.taken ≡ [] → parts ≡ workers ++ reader ∷ []
    → ((id : ℕ) → (written id k0.own.steps ≡ 0)) → ((id : ℕ) → (written id reader.steps ≡ 0)) → All (IsLastWord k) list → AllByRecursion (λ r. LeftBy r.id.0 workers r.word) list
left_words k k0 parts workers reader list is none are idle idle' all =
    recursion_from_All (λ (r : Reading). LeftBy r.id.0 workers r.word) list
    (All-weaker (IsLastWord k) (λ (r : Reading). LeftBy r.id.0 workers r.word) (λ r last.
    run_ends.word r.id.0 r.word last.own reader workers
    (last.idle r.id.0 ∙ (ap (λ (z : GaugeKnown). written r.id.0 z.own.steps) is ∙ idle r.id.0)) (idle' r.id.0)
    (subst (λ (l : List GaugePart). IsGaugeWord r.id.0 (last.own ∷ l) r.word) taken last.word)) list all)
  where
    taken : k.taken ≡ workers ++ reader ∷ []
    taken = ap (λ (z : GaugeKnown). z.taken) is ∙ ((λ i. none i ++ parts) ∙ are)
