use Rattle.book_access.specs.Making.{AcksAll}
use Rattle.book_access.proofs.Called.{one_acked, acks_all, due_in}
use Rattle.book_access.proofs.OneSeat.{owned_told, owned_kept}
use Rattle.book_access.proofs.owned.OwnedBookBookAccessUnit.ack.Goals as goal

pub ack-told-requires : goal.ack-told-requires
ack-told-requires c = record { due = due_in c.args.self.now.book c.args.self.now.number c.has_legal_log.ensures c.requires.due }

pub returns-clause-step : goal.returns-clause-step
returns-clause-step c =
    let old = c.args.self.now in let t = c.ack-told in
    owned_told old.number old.book t.new.self t.result AcksAll c.has_legal_log-2.ensures
    (λ x. one_acked x old.number old.book t.new.self) (acks_all t.result old.number old.book t.new.self c.has_legal_log.ensures t.ensures.step t.ensures.scopes)

pub returns-clause-err : goal.returns-clause-err
returns-clause-err c = let old = c.args.self.now in owned_kept old.number old.book c.ack-told.new.self c.ack-told.result c.has_legal_log-2.ensures c.ack-told.ensures.err
