use Rattle.std.proofs.Common.{◌≡◌, true, length, All, ap, sym, ◌∙◌, subst}
use Rattle.stat_defs.specs.Books.{BookHistory}
use Rattle.stat_defs.specs.declared.history.Entry.{Entry}
use Rattle.book_state.specs.Safe.{SymbolsSafe}
use Rattle.book_state.specs.Stored.{IsLawfulCall}
use Rattle.stat_book.specs.Calls.{rules_of, IsLegal}
use Rattle.plain_store.specs.Worker.{WorkerHistory, IsFollowed}
use Rattle.plain_store.proofs.worker.LoneWorker.log.Goals as goal

pub returns-clause-log : goal.returns-clause-log
returns-clause-log c = c.log.ensures.log ∙ (ap (λ (b : BookHistory). b.log) c.book.ensures ∙ ap (λ (v : WorkerHistory). v.book.log) c.self.view_is)

pub returns-clause-one_worker : goal.returns-clause-one_worker
returns-clause-one_worker c = ap (λ (v : WorkerHistory). v.book.workers) (sym c.self.view_is) ∙ c.self.invariant.one_worker

pub returns-clause-legal : goal.returns-clause-legal
returns-clause-legal c = subst (λ (v : WorkerHistory). IsLegal v.book) c.self.view_is (subst IsLegal c.book.ensures c.log.ensures.legal)

pub returns-clause-safe : goal.returns-clause-safe
returns-clause-safe c =
    let b = c.self.inside.seat.book in
    subst (λ (v : WorkerHistory). SymbolsSafe (rules_of v.book) 1 v.book.log) c.self.view_is
    (subst (λ n. SymbolsSafe (rules_of b) n b.log) c.self.invariant.one_worker
    (subst (λ (h : BookHistory). SymbolsSafe (rules_of h) h.workers h.log) c.book.ensures c.log.ensures.safe))

pub returns-clause-lawful : goal.returns-clause-lawful
returns-clause-lawful c =
    subst (λ (v : WorkerHistory). All (λ (entry : Entry). IsLawfulCall entry.call) v.book.log) c.self.view_is
    (subst (λ (h : BookHistory). All (λ (entry : Entry). IsLawfulCall entry.call) h.log) c.book.ensures c.log.ensures.lawful)

pub returns-clause-each : goal.returns-clause-each
returns-clause-each c = subst (λ (v : WorkerHistory). length v.verdicts ≡ length v.events) c.self.view_is c.self.invariant.a_verdict_each

pub returns-clause-followed : goal.returns-clause-followed
returns-clause-followed c = subst (λ (v : WorkerHistory). v.whole ≡ true → IsFollowed v) c.self.view_is c.self.invariant.followed
