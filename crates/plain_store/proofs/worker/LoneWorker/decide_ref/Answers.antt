use Rattle.std.proofs.Common.{List, [], ◌∷◌, ◌++◌, length, length-append, false, refl, ap, sym, ◌∙◌, subst, arith}
use Rattle.stat_defs.specs.Books.{BookHistory}
use Rattle.stat_defs.specs.Borrowed.{event_of}
use Rattle.stat_defs.specs.declared.events.Event.{Event}
use Rattle.stat_defs.specs.declared.history.Verdict.{Verdict}
use Rattle.book_state.proofs.Lists.{true_false}
use Rattle.book_seat.proofs.Results.{err_so}
use Rattle.plain_store.specs.Worker.{WorkerHistory, Decides, IsCutShort}
use Rattle.plain_store.proofs.WorkerLemmas.{FollowedIn, decided_follows}
use Rattle.plain_store.proofs.worker.LoneWorker.decide_ref.Goals as goal

pub apply-requires-clause-works : goal.apply-requires-clause-works
apply-requires-clause-works c = c.self.invariant.works (ap (λ (w : WorkerHistory). w.ended) c.self.view_is ∙ c.requires.works)

pub apply-requires-clause-room : goal.apply-requires-clause-room
apply-requires-clause-room c =
    let events = ap (λ (w : WorkerHistory). length w.events) c.self.view_is in
    omega (arith, events, c.self.invariant.few_openings, c.requires.few)

pub invariant_of-self : goal.invariant_of-self
invariant_of-self c =
    let cut = c.in_err-verdict.ensures.err in
    record {
      one_worker = ap (λ (b : BookHistory). b.workers) cut.left.logged ∙ c.self.invariant.one_worker;
      number = cut.stays.number;
      works = λ not_ended. cut.stays.works;
      few_openings = (let few = cut.stays.openings in let was = c.self.invariant.few_openings in omega (arith, few, was));
      a_verdict_each = c.self.invariant.a_verdict_each;
      followed = λ whole. absurd (true_false (sym whole));
    }

pub invariant_of-self-2 : goal.invariant_of-self-2
invariant_of-self-2 c =
    let w = c.self.inside in
    let did = c.in_ok-verdict.ensures.applied in
    let works = ap (λ (v : WorkerHistory). v.ended) c.self.view_is ∙ c.requires.works in
    let events = ap (λ (l : List Event). length l) c.with_event-self-inside.ensures ∙ length-append w.events.items (event_of c.args.event.now ∷ []) in
    let verdicts = ap (λ (l : List Verdict). length l) c.and-self-inside.ensures ∙ length-append w.verdicts.items (c.in_ok-verdict.verdict ∷ []) in
    record {
      one_worker = ap (λ (b : BookHistory). b.workers) did.applied.logged ∙ c.self.invariant.one_worker;
      number = did.stays.number;
      works = λ not_ended. did.stays.works;
      few_openings = (let few = did.stays.openings in let was = c.self.invariant.few_openings in omega (arith, few, was, events));
      a_verdict_each = (let was = c.self.invariant.a_verdict_each in omega (arith, was, events, verdicts));
      followed = λ whole.
          subst (λ (es : List Event). FollowedIn c.apply.new.seat.book es c.and-self-inside.result.items w.ended) (sym c.with_event-self-inside.ensures)
          (subst (λ (vs : List Verdict). FollowedIn c.apply.new.seat.book (w.events.items ++ event_of c.args.event.now ∷ []) vs w.ended) (sym c.and-self-inside.ensures)
          (decided_follows w.seat.book c.apply.new.seat.book w.events.items w.verdicts.items w.ended (event_of c.args.event.now) c.in_ok-verdict.verdict works c.self.invariant.one_worker
          did.applied (c.self.invariant.followed whole)));
    }

pub returns-clause-ok : goal.returns-clause-ok
returns-clause-ok c =
    let w = c.self.inside in
    let new : WorkerHistory = record { book = c.apply.new.seat.book; events = c.with_event-self-inside.result.items; verdicts = c.and-self-inside.result.items; ended = w.ended; whole = w.whole } in
    subst (λ (v : WorkerHistory). Decides v (event_of c.args.event.now) c.in_ok-verdict.verdict new) c.self.view_is
    (record {
      added = c.in_ok-verdict.ensures.applied.applied;
      decided = λ i. record { book = c.apply.new.seat.book; events = c.with_event-self-inside.ensures i; verdicts = c.and-self-inside.ensures i; ended = w.ended; whole = w.whole };
    })

pub returns-in_err-verdict-clause-err : goal.returns-in_err-verdict-clause-err
returns-in_err-verdict-clause-err c =
    let w = c.self.inside in
    let new : WorkerHistory = record { book = c.apply.new.seat.book; events = w.events.items; verdicts = w.verdicts.items; ended = w.ended; whole = false } in
    let e = event_of c.args.event.now in
    err_so c.from_residual.result (IsCutShort c.args.self.now e new)
    (subst (λ (v : WorkerHistory). IsCutShort v e new) c.self.view_is (record { left = c.in_err-verdict.ensures.err.left; cut = refl }))
