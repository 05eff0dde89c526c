use Rattle.std.proofs.Common.{◌≡◌, true, refl, ap, sym, ◌∙◌, subst, arith}
use Rattle.stat_defs.specs.Books.{BookHistory}
use Rattle.stat_defs.specs.declared.history.Call.TheVariants as call
use Rattle.stat_defs.specs.declared.history.Reply.TheVariants as reply
use Rattle.book_state.proofs.Lists.{true_false}
use Rattle.stat_book.specs.Calls.{Logged}
use Rattle.book_access.specs.declared.owned.OwnedBook.{OwnedBook}
use Rattle.book_access.proofs.OneSeat.{owned_logged, owned_same}
use Rattle.book_seat.proofs.Results.{err_so}
use Rattle.plain_store.specs.Worker.{WorkerHistory}
use Rattle.plain_store.specs.WorkerKept.{shown, IsKept}
use Rattle.plain_store.proofs.OwnSeats.{works_own}
use Rattle.book_seat.proofs.SeatLemmas.{none_opened}
use Rattle.plain_store.proofs.WorkerLemmas.{workers_stay, ended_follows}
use Rattle.plain_store.proofs.worker.LoneWorker.end.Goals as goal

pub end-requires-clause-works : goal.end-requires-clause-works
end-requires-clause-works c = works_own c.self.inside.seat c.self.inside.seat c.self.invariant.number (c.self.invariant.works (ap (λ (w : WorkerHistory). w.ended) c.self.view_is ∙ c.requires.works))

pub invariant_of-self : goal.invariant_of-self
invariant_of-self c =
    let w = c.self.inside in let old = w.seat in let new = c.end.new.self in
    let same = owned_same old.number new.number old.book new.book c.in_err-end.ensures.err in
    subst (λ (o : OwnedBook). IsKept (record w { seat = o })) (λ i. record { book = sym same.0 i; number = sym same.1 i }) c.self.invariant

pub invariant_of-self-2 : goal.invariant_of-self-2
invariant_of-self-2 c =
    let w = c.self.inside in let old = w.seat in let new = c.end.new.self in let one = c.self.invariant.number in
    let did = owned_logged old.number new.number old.book new.book call.End reply.Ended c.in_ok-end.ensures.ends in
    let l = subst (λ n. Logged old.book n call.End reply.Ended new.book) one did.0 in
    record {
      one_worker = workers_stay old.book new.book 1 call.End reply.Ended l ∙ c.self.invariant.one_worker;
      number = did.1 ∙ one;
      works = λ none. absurd (true_false none);
      few_openings = (let few = none_opened old.book new.book 1 call.End reply.Ended l 1 refl in let was = c.self.invariant.few_openings in omega (arith, few, was));
      a_verdict_each = c.self.invariant.a_verdict_each;
      followed = λ whole. ended_follows old.book new.book w.events.items w.verdicts.items w.ended (ap (λ (v : WorkerHistory). v.ended) c.self.view_is ∙ c.requires.works) c.self.invariant.one_worker l
          (c.self.invariant.followed whole);
    }

pub returns-clause-step : goal.returns-clause-step
returns-clause-step c =
    let old = c.self.inside.seat in let new = c.end.new.self in
    subst (λ (v : WorkerHistory). Logged v.book 1 call.End reply.Ended new.book) c.self.view_is
    (subst (λ n. Logged old.book n call.End reply.Ended new.book) c.self.invariant.number (owned_logged old.number new.number old.book new.book call.End reply.Ended c.in_ok-end.ensures.ends).0)

pub returns-clause-rest : goal.returns-clause-rest
returns-clause-rest c =
    let w = c.self.inside in
    let new : WorkerHistory = record { book = c.end.new.self.book; events = w.events.items; verdicts = w.verdicts.items; ended = true; whole = w.whole } in
    subst (λ (v : WorkerHistory). new ≡ record v { book = c.end.new.self.book; ended = true }) c.self.view_is refl

pub returns-in_err-end-clause-err : goal.returns-in_err-end-clause-err
returns-in_err-end-clause-err c =
    let old = c.self.inside.seat in let new = c.end.new.self in
    err_so c.from_residual.result (record (shown c.self.inside) { book = new.book } ≡ c.args.self.now)
    (ap (λ (b : BookHistory). record (shown c.self.inside) { book = b }) (owned_same old.number new.number old.book new.book c.in_err-end.ensures.err).0 ∙ c.self.view_is)
