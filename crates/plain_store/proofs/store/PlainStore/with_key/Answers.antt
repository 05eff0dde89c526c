use Rattle.std.proofs.Common.{true, List, [], length, ap, sym, subst, arith}
use Rattle.stat_defs.specs.declared.reports.FlushRecord.{FlushRecord}
use Rattle.merge_round.specs.Halves.{HalfState}
use Rattle.merge_round.specs.Rounds.{ParentsState, all_values}
use Rattle.plain_store.specs.Worker.{WorkerHistory, new_worker}
use Rattle.ledger.specs.Work.{Work}
use Rattle.plain_store.specs.StoreKept.{AreOfWork}
use Rattle.plain_store.proofs.StoreLemmas.{first_of_work}
use Rattle.plain_store.proofs.store.PlainStore.with_key.Goals as goal

pub invariant_of-result : goal.invariant_of-result
invariant_of-result c =
    let is = c.in_ok-worker.ensures in let sums = c.new-sums.result in let nothing = c.new-sums.ensures in
    record {
      works = ap (λ (w : WorkerHistory). w.ended) is;
      decided = (let none = ap (λ (w : WorkerHistory). length w.events) is in omega (arith, none));
      few_events = (let none = ap (λ (w : WorkerHistory). length w.events) is in omega (arith, none));
      small = record {
        deltas = λ id. (let none = nothing.deltas id in omega (arith, none));
        values = omega (arith, ap (λ (p : ParentsState). length (all_values p.all)) nothing.parents, ap (λ (h : HalfState). length h.values) nothing.half);
      };
      exact = λ whole.
          subst (λ (w : WorkerHistory). AreOfWork (record { worker = w; counted = c.new.result.items; flushes = c.new-2.result.items; whole = true }) sums) (sym is)
          (subst (λ (work : Work). AreOfWork (record { worker = new_worker c.args.config.now; counted = work; flushes = c.new-2.result.items; whole = true }) sums) (sym c.new.ensures)
          (subst (λ (fs : List FlushRecord). AreOfWork (record { worker = new_worker c.args.config.now; counted = []; flushes = fs; whole = true }) sums) (sym c.new-2.ensures)
          (first_of_work c.args.config.now sums nothing)));
    }

pub returns : goal.returns
returns c = λ i. record { worker = c.in_ok-worker.ensures i; counted = c.new.ensures i; flushes = c.new-2.ensures i; whole = true }
