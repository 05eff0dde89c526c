use Rattle.stat_defs.specs.declared.history.Call.TheVariants as call
use Rattle.stat_defs.specs.declared.history.Reply.TheVariants as reply
use Rattle.book_access.specs.Making.{LogsCall}
use Rattle.book_access.proofs.Called.{one_logged}
use Rattle.book_access.proofs.OneSeat.{owned_done, owned_kept}
use Rattle.book_access.proofs.owned.OwnedBookBookAccessUnit.set_text.Goals as goal

pub returns-clause-step : goal.returns-clause-step
returns-clause-step c =
    let old = c.args.self.now in let t = c.set_text-told in
    owned_done old.number old.book t.new.self t.result (LogsCall (call.SetText c.args.id c.args.text.now) reply.TextSet) c.has_legal_log.ensures
    (one_logged (call.SetText c.args.id c.args.text.now) reply.TextSet old.number old.book t.new.self) t.ensures.step

pub returns-clause-err : goal.returns-clause-err
returns-clause-err c = let old = c.args.self.now in owned_kept old.number old.book c.set_text-told.new.self c.set_text-told.result c.has_legal_log.ensures c.set_text-told.ensures.err
