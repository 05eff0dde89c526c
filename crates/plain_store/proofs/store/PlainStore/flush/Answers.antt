use Rattle.std.proofs.Common.{◌≡◌, inl, inr, false, List, length, filter, ap, sym, ◌∙◌, subst, arith}
use Rattle.stat_defs.specs.declared.ids.Kind.TheVariants.{Counter, Gauge}
use Rattle.stat_defs.specs.declared.history.Entry.{Entry}
use Rattle.stat_defs.specs.declared.reports.FlushRecord.{FlushRecord}
use Rattle.book_state.proofs.Lists.{true_false}
use Rattle.stat_book.specs.Calls.{state_of}
use Rattle.plain_store.specs.Worker.{WorkerHistory}
use Rattle.book_seat.proofs.Results.{err_so}
use Rattle.ledger.specs.Flushes.{ids_not_gone}
use Rattle.plain_store.specs.Sums.{is_of_kind}
use Rattle.plain_store.specs.Store.{StoreHistory, FlushIsCutShort, Flushes}
use Rattle.plain_store.specs.StoreKept.{shown, AreOfWork}
use Rattle.plain_store.proofs.FlushLemmas.{names_within, kind_shown, shows_as, flush_accounts, flushed_of_work}
use Rattle.plain_store.proofs.store.PlainStore.flush.Goals as goal

-- a worker that has not changed has changed no more than its book
only_book : (old new : WorkerHistory) → new ≡ old → new ≡ record old { book = new.book }
only_book old new same = same ∙ λ i. record old { book = sym (ap (λ (w : WorkerHistory). w.book) same) i }

pub take_flush-requires : goal.take_flush-requires
take_flush-requires c =
    let old = c.self.inside.worker.book in let new = c.sweep.new.self.book in
    let within = names_within old new (length c.in_ok-swept.swept.gone) c.in_ok-swept.ensures.step c.items-list.result.now (c.items-list.ensures ∙ c.in_ok-swept.ensures.list) in
    record { counters = within; gauges = within; few = (let small = c.self.invariant.small.values in let few = c.self.invariant.few_events in omega (arith, small, few)) }

pub invariant_of-self : goal.invariant_of-self
invariant_of-self c =
    let same = c.in_err-swept.ensures.err in
    let events = ap (λ (w : WorkerHistory). length w.events) same in
    record {
      works = ap (λ (w : WorkerHistory). w.ended) same ∙ c.self.invariant.works;
      decided = (let decided = c.self.invariant.decided in omega (arith, decided, events));
      few_events = (let few = c.self.invariant.few_events in omega (arith, few, events));
      small = record {
        deltas = λ id. (let small = c.self.invariant.small.deltas id in omega (arith, small, events));
        values = (let small = c.self.invariant.small.values in omega (arith, small, events));
      };
      exact = λ whole. absurd (true_false (sym whole));
    }

pub invariant_of-self-in_err-flush : goal.invariant_of-self-in_err-flush
invariant_of-self-in_err-flush c =
    let rest = c.in_ok-swept.ensures.rest in
    let events = ap (λ (w : WorkerHistory). length w.events) rest in
    let values = c.in_err-flush.ensures.values in
    record {
      works = ap (λ (w : WorkerHistory). w.ended) rest ∙ c.self.invariant.works;
      decided = (let decided = c.self.invariant.decided in omega (arith, decided, events));
      few_events = (let few = c.self.invariant.few_events in omega (arith, few, events));
      small = record {
        deltas = λ id. (let small = c.self.invariant.small.deltas id in let less = c.in_err-flush.ensures.deltas id in omega (arith, small, less, events));
        values = (let small = c.self.invariant.small.values in omega (arith, small, values, events));
      };
      exact = λ whole. absurd (true_false (sym whole));
    }

pub invariant_of-self-2 : goal.invariant_of-self-2
invariant_of-self-2 c =
    let p = c.self.inside in let old = p.worker.book in let new = c.sweep.new.self.book in
    let n = length c.in_ok-swept.swept.gone in
    let logged = c.in_ok-swept.ensures.step in
    let list = c.items-list.result.now in
    let are = c.items-list.ensures ∙ c.in_ok-swept.ensures.list in
    let rest = c.in_ok-swept.ensures.rest in
    let events = ap (λ (w : WorkerHistory). length w.events) rest in
    let values = c.in_ok-flush.ensures.values in
    let flush = c.in_ok-flush.flush in
    let shows = shows_as p.sums (length c.log.result.now) (length old.log) (filter (is_of_kind Counter (state_of new)) list) (ids_not_gone Counter (state_of old))
    (filter (is_of_kind Gauge (state_of new)) list) (ids_not_gone Gauge (state_of old)) flush (ap (λ (l : List Entry). length l) c.log.ensures.log)
    (kind_shown Counter old new n logged list are) (kind_shown Gauge old new n logged list are) c.in_ok-flush.ensures.shows in
    record {
      works = ap (λ (w : WorkerHistory). w.ended) rest ∙ c.self.invariant.works;
      decided = (let decided = c.self.invariant.decided in omega (arith, decided, events));
      few_events = (let few = c.self.invariant.few_events in omega (arith, few, events));
      small = record {
        deltas = λ id. (let small = c.self.invariant.small.deltas id in let less = c.in_ok-flush.ensures.deltas id in omega (arith, small, less, events));
        values = (let small = c.self.invariant.small.values in omega (arith, small, values, events));
      };
      exact = λ whole.
          subst (λ (w : WorkerHistory). AreOfWork (record { worker = w; counted = p.counted.items; flushes = c.and-self-inside.result.items; whole = p.whole }) c.take_flush.new.sums) (sym rest)
          (subst (λ (fs : List FlushRecord). AreOfWork (record { worker = record p.worker { book = new }; counted = p.counted.items; flushes = fs; whole = p.whole }) c.take_flush.new.sums) (sym c.and-self-inside.ensures)
          (flushed_of_work (shown p) new n logged c.log.ensures.one_worker p.sums c.take_flush.new.sums flush shows c.in_ok-flush.ensures.emptied (c.self.invariant.exact whole)));
    }

pub returns-clause-ok : goal.returns-clause-ok
returns-clause-ok c =
    let p = c.self.inside in let old = p.worker.book in let new = c.sweep.new.self.book in
    let n = length c.in_ok-swept.swept.gone in
    let logged = c.in_ok-swept.ensures.step in
    let list = c.items-list.result.now in
    let are = c.items-list.ensures ∙ c.in_ok-swept.ensures.list in
    let flush = c.in_ok-flush.flush in
    let shows = shows_as p.sums (length c.log.result.now) (length old.log) (filter (is_of_kind Counter (state_of new)) list) (ids_not_gone Counter (state_of old))
    (filter (is_of_kind Gauge (state_of new)) list) (ids_not_gone Gauge (state_of old)) flush (ap (λ (l : List Entry). length l) c.log.ensures.log)
    (kind_shown Counter old new n logged list are) (kind_shown Gauge old new n logged list are) c.in_ok-flush.ensures.shows in
    let after : StoreHistory = record { worker = c.sweep.new.self; counted = p.counted.items; flushes = c.and-self-inside.result.items; whole = p.whole } in
    subst (λ (s : StoreHistory). Flushes s flush after) c.self.view_is
    (record {
      at = shows.place;
      swept = (n, logged);
      rest = λ i. record { worker = c.in_ok-swept.ensures.rest i; counted = p.counted.items; flushes = c.and-self-inside.ensures i; whole = p.whole };
      accounts = λ whole. flush_accounts (shown p) new n logged c.log.ensures.one_worker p.sums c.take_flush.new.sums flush shows c.in_ok-flush.ensures.emptied (c.self.invariant.exact whole);
    })

pub returns-in_err-swept-clause-err : goal.returns-in_err-swept-clause-err
returns-in_err-swept-clause-err c =
    let p = c.self.inside in let same = c.in_err-swept.ensures.err in
    let after : StoreHistory = record { worker = c.sweep.new.self; counted = p.counted.items; flushes = p.flushes.items; whole = false } in
    err_so c.from_residual.result (FlushIsCutShort c.args.self.now after)
    (subst (λ (s : StoreHistory). FlushIsCutShort s after) c.self.view_is
    (record { sweep = inl (ap (λ (w : WorkerHistory). w.book) same); rest = ap (λ (w : WorkerHistory). record after { worker = w }) (only_book p.worker c.sweep.new.self same) }))

pub returns-in_err-flush-clause-err : goal.returns-in_err-flush-clause-err
returns-in_err-flush-clause-err c =
    let p = c.self.inside in let rest = c.in_ok-swept.ensures.rest in
    let after : StoreHistory = record { worker = c.sweep.new.self; counted = p.counted.items; flushes = p.flushes.items; whole = false } in
    err_so c.from_residual-in_err-flush.result (FlushIsCutShort c.args.self.now after)
    (subst (λ (s : StoreHistory). FlushIsCutShort s after) c.self.view_is
    (record { sweep = inr (length c.in_ok-swept.swept.gone, c.in_ok-swept.ensures.step); rest = ap (λ (w : WorkerHistory). record after { worker = w }) rest }))
