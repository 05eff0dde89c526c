use Rattle.std.proofs.Common.{◌<◌, [], ◌∷◌, length, length-append, ap, sym, ◌∙◌, subst, arith}
use Rattle.stat_defs.specs.Borrowed.{event_of}
use Rattle.book_state.specs.Follows.{event_key, MakesAcked}
use Rattle.stat_book.specs.Calls.{state_of}
use Rattle.plain_store.specs.declared.worker.TheConstants.{MAX_EVENTS}
use Rattle.book_seat.specs.Naming.{NamesLive}
use Rattle.plain_store.specs.Entries.{IsLeftOf}
use Rattle.plain_store.specs.Worker.{WorkerHistory}
use Rattle.merge_round.specs.Rounds.{ParentsState, all_values}
use Rattle.ledger.specs.Work.{Work}
use Rattle.plain_store.specs.Sums.{IsMade}
use Rattle.plain_store.specs.Store.{StoreHistory}
use Rattle.plain_store.specs.StoreKept.{shown, AreOfWork}
use Rattle.plain_store.proofs.StoreLemmas.{longer_of_work, alike_of_work, counted_of_work, if_some, made_live}
use Rattle.plain_store.proofs.store.PlainStore.apply_ref.Goals as goal

pub decide_ref-decided-requires : goal.decide_ref-decided-requires
decide_ref-decided-requires c = record {
  lawful = c.requires.lawful;
  few = subst (λ (s : StoreHistory). length s.worker.events < MAX_EVENTS) (sym c.self.view_is) c.requires.few;
  works = c.self.invariant.works;
}

pub sum_up-requires-clause-room : goal.sum_up-requires-clause-room
sum_up-requires-clause-room c =
    let few : length c.self.inside.worker.events < MAX_EVENTS = subst (λ (s : StoreHistory). length s.worker.events < MAX_EVENTS) (sym c.self.view_is) c.requires.few in
    record {
      units = λ id. (let small = c.self.invariant.small.deltas id in omega (arith, small, few));
      values = (let small = c.self.invariant.small.values in omega (arith, small, few));
    }

pub sum_up-requires-clause-made : goal.sum_up-requires-clause-made
sum_up-requires-clause-made c =
    let s = state_of c.decide_ref-decided.new.self.book in
    if_some (event_key (event_of c.args.event.now)) (λ key. NamesLive s key c.in_ok-verdict.verdict) (λ key. IsMade c.made-made.result c.in_ok-verdict.verdict)
    (λ key named. made_live s c.made-made.result key c.in_ok-verdict.verdict c.made-made.ensures named) c.in_ok-verdict.ensures.named

pub invariant_of-self : goal.invariant_of-self
invariant_of-self c =
    let p = c.self.inside in let worker = c.decide_ref-decided.new.self in let err = c.in_err-verdict.ensures.err in
    let events = ap (λ (w : WorkerHistory). length w.events) err.cut in
    record {
      works = ap (λ (w : WorkerHistory). w.ended) err.cut ∙ c.self.invariant.works;
      decided = (let decided = c.self.invariant.decided in omega (arith, decided, events));
      few_events = (let few = c.self.invariant.few_events in omega (arith, few, events));
      small = record {
        deltas = λ id. (let small = c.self.invariant.small.deltas id in omega (arith, small, events));
        values = (let small = c.self.invariant.small.values in omega (arith, small, events));
      };
      exact = λ whole. longer_of_work (shown p) worker (IsLeftOf (event_of c.args.event.now)) err.left c.log_is_followed.ensures.legal p.sums (c.self.invariant.exact whole);
    }

pub invariant_of-self-in_err-sum_up : goal.invariant_of-self-in_err-sum_up
invariant_of-self-in_err-sum_up c =
    let p = c.self.inside in let worker = c.decide_ref-decided.new.self in
    let decided = c.in_ok-verdict.ensures.ok in
    let events = ap (λ (w : WorkerHistory). length w.events) decided.decided ∙ length-append p.worker.events (event_of c.args.event.now ∷ []) in
    let parents = ap (λ (p : ParentsState). length (all_values p.all)) c.in_err-sum_up.ensures.parents in
    let half = c.in_err-sum_up.ensures.half in
    record {
      works = ap (λ (w : WorkerHistory). w.ended) decided.decided ∙ c.self.invariant.works;
      decided = (let decided = c.self.invariant.decided in omega (arith, decided, events));
      few_events = (let few : length p.worker.events < MAX_EVENTS = subst (λ (s : StoreHistory). length s.worker.events < MAX_EVENTS) (sym c.self.view_is) c.requires.few in omega (arith, few, events));
      small = record {
        deltas = λ id. (let small = c.self.invariant.small.deltas id in let more = c.in_err-sum_up.ensures.units id in omega (arith, small, more, events));
        values = (let small = c.self.invariant.small.values in omega (arith, small, parents, half, events));
      };
      exact = λ whole. alike_of_work (record (shown p) { worker = worker }) p.sums c.sum_up.new.sums c.in_err-sum_up.ensures.err c.in_err-sum_up.ensures.parents
          (longer_of_work (shown p) worker (MakesAcked 1 (state_of p.worker.book) (event_of c.args.event.now) c.in_ok-verdict.verdict) decided.added c.log_is_followed.ensures.legal p.sums (c.self.invariant.exact whole));
    }

pub invariant_of-self-2 : goal.invariant_of-self-2
invariant_of-self-2 c =
    let p = c.self.inside in let worker = c.decide_ref-decided.new.self in let e = event_of c.args.event.now in let v = c.in_ok-verdict.verdict in
    let decided = c.in_ok-verdict.ensures.ok in
    let events = ap (λ (w : WorkerHistory). length w.events) decided.decided ∙ length-append p.worker.events (e ∷ []) in
    let parents = ap (λ (p : ParentsState). length (all_values p.all)) c.in_ok-sum_up.ensures.parents in
    let half = c.in_ok-sum_up.ensures.half in
    record {
      works = ap (λ (w : WorkerHistory). w.ended) decided.decided ∙ c.self.invariant.works;
      decided = (let decided = c.self.invariant.decided in omega (arith, decided, events));
      few_events = (let few : length p.worker.events < MAX_EVENTS = subst (λ (s : StoreHistory). length s.worker.events < MAX_EVENTS) (sym c.self.view_is) c.requires.few in omega (arith, few, events));
      small = record {
        deltas = λ id. (let small = c.self.invariant.small.deltas id in let more = c.in_ok-sum_up.ensures.units id in omega (arith, small, more, events));
        values = (let small = c.self.invariant.small.values in omega (arith, small, parents, half, events));
      };
      exact = λ whole. subst (λ (work : Work). AreOfWork (record (shown p) { worker = worker; counted = work }) c.sum_up.new.sums) (sym c.with_counted-self-inside.ensures)
          (counted_of_work (record (shown p) { worker = worker }) e v p.sums c.sum_up.new.sums c.in_ok-verdict.ensures.named c.in_ok-sum_up.ensures.ok c.in_ok-sum_up.ensures.parents
          (longer_of_work (shown p) worker (MakesAcked 1 (state_of p.worker.book) e v) decided.added c.log_is_followed.ensures.legal p.sums (c.self.invariant.exact whole)));
    }
