use Rattle.std.proofs.Common.{◌≡◌, true, All, ap, sym, ◌∙◌, subst, arith}
use Rattle.stat_defs.specs.declared.history.Entry.{Entry}
use Rattle.book_state.specs.Stored.{IsLawfulCall}
use Rattle.stat_book.specs.Calls.{IsLegal}
use Rattle.plain_store.specs.Store.{StoreHistory, AccountsSoFar}
use Rattle.plain_store.proofs.store.PlainStore.log.Goals as goal

pub returns-clause-log : goal.returns-clause-log
returns-clause-log c = c.log.ensures.log ∙ ap (λ (s : StoreHistory). s.worker.book.log) c.self.view_is

pub returns-clause-one_worker : goal.returns-clause-one_worker
returns-clause-one_worker c = ap (λ (s : StoreHistory). s.worker.book.workers) (sym c.self.view_is) ∙ c.log.ensures.one_worker

pub returns-clause-legal : goal.returns-clause-legal
returns-clause-legal c = subst (λ (s : StoreHistory). IsLegal s.worker.book) c.self.view_is c.log.ensures.legal

pub returns-clause-lawful : goal.returns-clause-lawful
returns-clause-lawful c =
    subst (λ (s : StoreHistory). All (λ (entry : Entry). IsLawfulCall entry.call) s.worker.book.log) c.self.view_is
    c.log.ensures.lawful

pub returns-clause-accounts : goal.returns-clause-accounts
returns-clause-accounts c =
    subst (λ (s : StoreHistory). s.whole ≡ true → AccountsSoFar s) c.self.view_is (λ whole.
    let work = c.self.invariant.exact whole in
    record {
      fit = work.fit;
      units = λ id. (let each = work.units id in omega (arith, each));
      values = work.takes_less;
    })
