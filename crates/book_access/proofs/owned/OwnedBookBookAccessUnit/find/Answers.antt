use Rattle.book_access.specs.Making.{FindsKey}
use Rattle.book_access.proofs.Called.{finds_key, one_found}
use Rattle.book_access.proofs.OneSeat.{owned_told, owned_kept}
use Rattle.book_access.proofs.owned.OwnedBookBookAccessUnit.find.Goals as goal

pub returns-clause-step : goal.returns-clause-step
returns-clause-step c =
    let old = c.args.self.now in let t = c.find-told in
    owned_told old.number old.book t.new.self t.result (λ x. FindsKey c.args.key.now x) c.has_legal_log.ensures
    (λ x. one_found c.args.key.now x old.number old.book t.new.self) (finds_key t.result old.number c.args.key.now old.book t.new.self t.ensures.step t.ensures.scope t.ensures.none)

pub returns-clause-err : goal.returns-clause-err
returns-clause-err c = let old = c.args.self.now in owned_kept old.number old.book c.find-told.new.self c.find-told.result c.has_legal_log.ensures c.find-told.ensures.err
