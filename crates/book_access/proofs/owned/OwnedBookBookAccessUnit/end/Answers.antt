use Rattle.stat_defs.specs.declared.history.Call.TheVariants as call
use Rattle.stat_defs.specs.declared.history.Reply.TheVariants as reply
use Rattle.book_access.specs.Making.{LogsCall}
use Rattle.book_access.proofs.Called.{one_logged}
use Rattle.book_access.proofs.OneSeat.{owned_done, owned_kept}
use Rattle.book_access.proofs.owned.OwnedBookBookAccessUnit.end.Goals as goal

pub returns-clause-step : goal.returns-clause-step
returns-clause-step c =
    let old = c.args.self.now in let t = c.end-told in
    owned_done old.number old.book t.new.self t.result (LogsCall (call.End) reply.Ended) c.has_legal_log.ensures
    (one_logged (call.End) reply.Ended old.number old.book t.new.self) t.ensures.step

pub returns-clause-err : goal.returns-clause-err
returns-clause-err c = let old = c.args.self.now in owned_kept old.number old.book c.end-told.new.self c.end-told.result c.has_legal_log.ensures c.end-told.ensures.err
