use Rattle.std.proofs.Common.{◌≡◌, ◌∙◌, List, ◌++◌, length, map, sym, ap, refl, subst, All, arith}
use Rattle.std.proofs.lemmas.List.{length-map}
use Rattle.std.proofs.lemmas.List.Elements.{All-nil}
use Rattle.metric_words.specs.declared.counter_view.CountPart.{CountPart}
use Rattle.metric_words.specs.declared.counter_seats.WorkerSeat.{WorkerSeat}
use Rattle.metric_words.specs.Known.{with_parts}
use Rattle.metric_words.specs.CounterLedger.{CounterKnown, bank_id, size_of, workers_of, worker_known, worker_part, flush_known}
use Rattle.flush_words.specs.Words.{after_latches}
use Rattle.flush_words.proofs.Appending.{latches-keep}
use Rattle.flush_words.proofs.Ending.{counters-end}
use Rattle.flush_words.proofs.counter_ends.close_counters.Goals as goal

pub close-requires : goal.close-requires
close-requires c =
    let ds = c.latch_into.new.deltas.items in let k = with_parts (map worker_part c.args.seats.workers.items) (flush_known c.args.seats.flusher) in
    let known : flush_known c.latch_into.new.flush ≡ after_latches ds k = c.latch_into.ensures.known ∙ ap (λ (z : CounterKnown). after_latches ds z) c.take_workers.ensures in
    let taken = ap (λ z. length z.taken) known ∙ (ap length (latches-keep ds k).0 ∙ ap (λ (l : List CountPart). length (l ++ map worker_part c.args.seats.workers.items)) c.requires.flusher.1) in
    let workers = length-map c.args.seats.workers.items worker_part in
    let all = c.requires.all.count in let none = ap length c.requires.flusher.1 in let gone = ap length c.new.ensures.items in record {
      count = omega (arith, taken, workers, all, none, gone);
      workers_bank = subst (λ (l : List WorkerSeat). All (λ w. (worker_known w).bank ≡ bank_id c.args.bank) l) (sym c.new.ensures.items) (All-nil (λ (w : WorkerSeat). (worker_known w).bank ≡ bank_id c.args.bank));
      flusher_bank = ap (λ z. z.bank) known ∙ ((latches-keep ds k).2 ∙ c.requires.all.flusher_bank);
      reader_bank = c.requires.all.reader_bank;
    }

pub returns : goal.returns
returns c =
    let ds = c.latch_into.new.deltas.items in
    let all = c.requires.all.count in let none = ap length c.requires.flusher.1 in let many = c.requires.flusher.0 in
    counters-end (size_of c.args.bank) (workers_of c.args.bank) c.args.seats (record { workers = c.new.result; flusher = c.latch_into.new.flush; reader = c.args.seats.reader }) c.args.ids.now
    (record { deltas = c.latch_into.new.deltas; words = c.in_ok-words.words })
    c.requires.flusher.1 (omega (arith, all, none, many)) (c.latch_into.ensures.known ∙ ap (λ (z : CounterKnown). after_latches ds z) c.take_workers.ensures)
    c.new.ensures.items refl c.latch_into.ensures.ids c.latch_into.ensures.whole c.in_ok-words.ensures
