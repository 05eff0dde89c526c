use Rattle.std.proofs.Common.{◌≡◌, length, refl, ap, sym, ◌∙◌, subst, arith}
use Rattle.stat_defs.specs.declared.history.Call.TheVariants as call
use Rattle.stat_defs.specs.declared.history.Reply.TheVariants as reply
use Rattle.book_state.specs.State.{names_in}
use Rattle.book_state.specs.Step.{overdue_in}
use Rattle.stat_book.specs.Calls.{state_of, Logged}
use Rattle.book_access.specs.declared.owned.OwnedBook.{OwnedBook}
use Rattle.book_seat.proofs.Results.{err_so}
use Rattle.plain_store.specs.Worker.{WorkerHistory}
use Rattle.plain_store.specs.WorkerKept.{shown, IsKept}
use Rattle.book_seat.proofs.SeatLemmas.{none_opened}
use Rattle.plain_store.proofs.WorkerLemmas.{workers_stay, swept_works, swept_follows}
use Rattle.plain_store.proofs.worker.LoneWorker.sweep.Goals as goal

pub invariant_of-self : goal.invariant_of-self
invariant_of-self c =
    let w = c.self.inside in
    subst (λ (o : OwnedBook). IsKept (record w { seat = o })) (sym c.in_err-swept.ensures.err) c.self.invariant

pub invariant_of-self-2 : goal.invariant_of-self-2
invariant_of-self-2 c =
    let w = c.self.inside in let old = w.seat.book in let new = c.sweep.new.self.book in let l = c.in_ok-swept.ensures.swept.step in
    let told = reply.Swept (length c.in_ok-swept.swept.gone) in
    record {
      one_worker = workers_stay old new 0 call.Sweep told l ∙ c.self.invariant.one_worker;
      number = ap (λ (o : OwnedBook). o.number) c.in_ok-swept.ensures.seat ∙ c.self.invariant.number;
      works = λ not_ended. swept_works old new told l (c.self.invariant.works not_ended);
      few_openings = (let few = none_opened old new 0 call.Sweep told l 1 refl in let was = c.self.invariant.few_openings in omega (arith, few, was));
      a_verdict_each = c.self.invariant.a_verdict_each;
      followed = λ whole. swept_follows old new w.events.items w.verdicts.items w.ended told l (c.self.invariant.followed whole);
    }

pub returns-clause-step : goal.returns-clause-step
returns-clause-step c = subst (λ (v : WorkerHistory). Logged v.book 0 call.Sweep (reply.Swept (length c.in_ok-swept.swept.gone)) c.sweep.new.self.book) c.self.view_is c.in_ok-swept.ensures.swept.step

pub returns-clause-list : goal.returns-clause-list
returns-clause-list c = c.in_ok-swept.ensures.swept.list ∙ ap (λ (v : WorkerHistory). names_in (state_of v.book)) c.self.view_is

pub returns-clause-gone : goal.returns-clause-gone
returns-clause-gone c = c.in_ok-swept.ensures.swept.gone ∙ ap (λ (v : WorkerHistory). overdue_in (state_of v.book)) c.self.view_is

pub returns-clause-rest : goal.returns-clause-rest
returns-clause-rest c =
    let w = c.self.inside in
    let new : WorkerHistory = record { book = c.sweep.new.self.book; events = w.events.items; verdicts = w.verdicts.items; ended = w.ended; whole = w.whole } in
    subst (λ (v : WorkerHistory). new ≡ record v { book = c.sweep.new.self.book }) c.self.view_is refl

pub returns-in_err-swept-clause-err : goal.returns-in_err-swept-clause-err
returns-in_err-swept-clause-err c =
    err_so c.from_residual.result (record (shown c.self.inside) { book = c.sweep.new.self.book } ≡ c.args.self.now)
    (ap (λ (o : OwnedBook). record (shown c.self.inside) { book = o.book }) c.in_err-swept.ensures.err ∙ c.self.view_is)
