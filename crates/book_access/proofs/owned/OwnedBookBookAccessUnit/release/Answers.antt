use Rattle.stat_defs.specs.declared.history.Call.TheVariants as call
use Rattle.book_access.specs.Making.{AnswersCall}
use Rattle.book_access.proofs.Called.{one_answered}
use Rattle.book_access.proofs.OneSeat.{owned_told, owned_kept}
use Rattle.book_access.proofs.owned.OwnedBookBookAccessUnit.release.Goals as goal

pub returns-clause-step : goal.returns-clause-step
returns-clause-step c =
    let old = c.args.self.now in let t = c.release-told in
    owned_told old.number old.book t.new.self t.result (λ x. AnswersCall (call.Release c.args.label.now) x) c.has_legal_log.ensures
    (λ x. one_answered (call.Release c.args.label.now) x old.number old.book t.new.self) t.ensures.step

pub returns-clause-err : goal.returns-clause-err
returns-clause-err c = let old = c.args.self.now in owned_kept old.number old.book c.release-told.new.self c.release-told.result c.has_legal_log.ensures c.release-told.ensures.err
