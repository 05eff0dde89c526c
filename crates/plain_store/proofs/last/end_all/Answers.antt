use Rattle.std.proofs.Common.{ℕ, ◌∙◌, ap, subst}
use Rattle.plain_store.specs.Worker.{WorkerHistory}
use Rattle.plain_store.specs.Sums.{SweepsLast}
use Rattle.plain_store.proofs.last.end_all.Goals as goal

pub returns : goal.returns
returns c = record {
  mid = c.end_seat.new.worker.book;
  ended = c.in_ok-at.ensures.step;
  one_worker = c.in_ok-at.ensures.one_worker;
  sweeps = subst (λ (at : ℕ). SweepsLast c.end_seat.new.worker.book c.args.sums.now at c.take_last.new.worker.book c.in_ok-flush.flush) c.in_ok-at.ensures.at c.in_ok-flush.ensures.swept;
  rest = c.in_ok-flush.ensures.rest ∙ ap (λ (w : WorkerHistory). record w { book = c.take_last.new.worker.book }) c.in_ok-at.ensures.rest;
  legal = c.log_is_followed.ensures.legal;
  followed = c.log_is_followed.ensures.followed;
}
