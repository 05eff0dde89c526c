-- What the ledger of a bank says where all workers were taken in and some counters latched last.
use Rattle.std.proofs.Common.{◌≡◌, ℕ, List, [], ◌++◌, map, ap, sym, ◌∙◌, subst, All, length, slice_index}
use Rattle.std.proofs.lemmas.List.{length-map}
use Rattle.std.proofs.lemmas.List.Elements.{All-weaker}
use Rattle.seat_parts.specs.Parts.{total}
use Rattle.stat_defs.specs.declared.ids.MetricId.{MetricId}
use Rattle.stat_defs.specs.declared.reports.Delta.{Delta}
use Rattle.metric_words.specs.declared.counter_view.CountPart.{CountPart}
use Rattle.metric_words.specs.declared.counter_view.CountStep.{CountStep}
use Rattle.metric_words.specs.declared.counter_seats.WordSeats.{WordSeats}
use Rattle.metric_words.specs.declared.counter_seats.WorkerSeat.{WorkerSeat}
use Rattle.metric_words.specs.Known.{with_parts}
use Rattle.metric_words.specs.Counters.{seconds, latches, Rises}
use Rattle.metric_words.specs.CounterLaws.{IsCounterEnd, worker_parts}
use Rattle.metric_words.specs.CounterLedger.{worker_part, flush_known, flush_steps, read_steps, LatchedAll, IsLedger}
use Rattle.metric_words.proofs.CounterLaws.{end-of-one}
use Rattle.flush_words.specs.declared.counter_ends.CounterEnds.{CounterEnds}
use Rattle.flush_words.specs.Words.{after_latches}
use Rattle.flush_words.specs.Ends.{IsAllLatched, CountersEnd, latched_steps}
use Rattle.flush_words.proofs.Appending.{latches-keep, latched-anyway}

-- the flusher's seat that took in these workers and made these latches
pub counters-end : (size workers : ℕ) (s t : WordSeats) (last : List MetricId) (ends : CounterEnds)
    → (flush_known s.flusher).taken ≡ [] → length s.workers.items ≡ (flush_known s.flusher).own.workers
    → flush_known t.flusher ≡ after_latches ends.deltas.items (with_parts (map worker_part s.workers.items) (flush_known s.flusher))
    → t.workers.items ≡ [] → read_steps t ≡ read_steps s
    → map (λ d. d.id) ends.deltas.items ≡ last → All (λ d. LatchedAll d.id.0 (flush_known t.flusher)) ends.deltas.items
    → IsLedger size workers t ends.words.values ends.words.pending → CountersEnd size s last ends
counters-end size workers s t last ends none many known gone reader ids whole ledger =
    let taken : (flush_known t.flusher).taken ≡ map worker_part s.workers.items = ap (λ z. z.taken) known ∙ (latches-keep ends.deltas.items _).0 ∙ ap (λ (l : List CountPart). l ++ map worker_part s.workers.items) none in
    let full : length (flush_known t.flusher).taken ≡ (flush_known t.flusher).own.workers =
    ap length taken ∙ (length-map s.workers.items worker_part ∙ (many ∙ sym (ap (λ z. z.own.workers) known ∙ (latches-keep ends.deltas.items _).1))) in
    let steps : flush_steps t ≡ latched_steps s ends.deltas.items = ap (λ z. z.own.steps) known ∙ latched-anyway ends.deltas.items (map worker_part s.workers.items) (flush_known s.flusher) in
    let workers_are : worker_parts t ≡ map worker_part s.workers.items = ap (λ (l : List WorkerSeat). map worker_part l ++ (flush_known t.flusher).taken) gone ∙ taken in record {
      ids = ids;
      latched = All-weaker (λ (d : Delta). LatchedAll d.id.0 (flush_known t.flusher)) (IsAllLatched (map worker_part s.workers.items) (latched_steps s ends.deltas.items))
          (λ d all. ap (latches d.id.0) (sym steps) ∙ (all full ∙ ap (λ (l : List CountPart). total (λ p. seconds d.id.0 p.steps) l) taken)) ends.deltas.items whole;
      each = λ id low. at_end id workers_are steps reader (end-of-one size workers id t ends.words.values ends.words.pending ledger low);
      rises = λ id low. subst (λ (l : List CountStep). Rises id l (slice_index ends.words.values id)) reader (ledger.loads id low);
    } where
      at_end : (id : ℕ) → worker_parts t ≡ map worker_part s.workers.items → flush_steps t ≡ latched_steps s ends.deltas.items → read_steps t ≡ read_steps s
          → IsCounterEnd id (worker_parts t) (flush_steps t) (read_steps t) (slice_index ends.words.values id) (slice_index ends.words.pending id)
          → IsCounterEnd id (map worker_part s.workers.items) (latched_steps s ends.deltas.items) (read_steps s) (slice_index ends.words.values id) (slice_index ends.words.pending id)
      at_end id w f r end = subst (λ (l : List CountStep). IsCounterEnd id (map worker_part s.workers.items) (latched_steps s ends.deltas.items) l (slice_index ends.words.values id) (slice_index ends.words.pending id)) r
          (subst (λ (l : List CountStep). IsCounterEnd id (map worker_part s.workers.items) l (read_steps t) (slice_index ends.words.values id) (slice_index ends.words.pending id)) f
          (subst (λ (l : List CountPart). IsCounterEnd id l (flush_steps t) (read_steps t) (slice_index ends.words.values id) (slice_index ends.words.pending id)) w end))
