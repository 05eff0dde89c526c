use Rattle.stat_defs.specs.declared.history.Call.TheVariants as call
use Rattle.stat_defs.specs.declared.history.Reply.TheVariants as reply
use Rattle.book_lock.specs.Seats.{seat_part, seat_known, held_book}
use Rattle.book_access.specs.Making.{LogsCall}
use Rattle.book_access.proofs.Called.{one_logged}
use Rattle.book_lock.proofs.Uses.{found-with}
use Rattle.locked_book.proofs.Called.{leaves_made, names_made, working_lent, as_if, done, kept}
use Rattle.locked_book.proofs.access.LockedBookBookAccessWay.end.Goals as goal

pub end_in-ended-requires : goal.end_in-ended-requires
end_in-ended-requires g c =
    record { works = working_lent (seat_known c.args.self.now.seat) (held_book c.enter-held.result) c.book.result.now c.args.self.now.number c.enter-held.ensures.found c.args.self.now.numbered c.book.ensures.value (λ row. Unit {0}) c.requires.works }

pub leave-requires-clause-book : goal.leave-requires-clause-book
leave-requires-clause-book g c =
    let e = c.enter-held.ensures in let t = c.end_in-ended in
    leaves_made t.result (seat_part c.args.self.now.seat) (seat_part c.enter-held.new.seat) (held_book c.enter-held.result) c.book.result.now t.new.book c.args.self.now.number e.found e.part c.args.self.now.numbered c.book.ensures.value
    (λ x. LogsCall call.End reply.Ended) (λ x. one_logged call.End reply.Ended c.args.self.now.number c.book.result.now t.new.book) (as_if t.result (LogsCall call.End reply.Ended c.args.self.now.number c.book.result.now t.new.book) t.ensures.step) t.ensures.err

pub leave-requires-clause-found : goal.leave-requires-clause-found
leave-requires-clause-found g c = let e = c.enter-held.ensures in found-with c.enter-held.result (seat_part c.args.self.now.seat) (seat_part c.enter-held.new.seat) _ _ e.counts e.part

pub leave-requires-clause-names : goal.leave-requires-clause-names
leave-requires-clause-names g c =
    let e = c.enter-held.ensures in let t = c.end_in-ended in
    names_made t.result (seat_part c.args.self.now.seat) (seat_part c.enter-held.new.seat) (held_book c.enter-held.result) c.book.result.now t.new.book c.args.self.now.number e.found e.part c.args.self.now.numbered c.book.ensures.value e.names c.args.self.now.roomy t.ensures.legal
    (λ x. LogsCall call.End reply.Ended) (λ x. one_logged call.End reply.Ended c.args.self.now.number c.book.result.now t.new.book) (as_if t.result (LogsCall call.End reply.Ended c.args.self.now.number c.book.result.now t.new.book) t.ensures.step) t.ensures.err

pub returns-clause-step : goal.returns-clause-step
returns-clause-step g c =
    let e = c.enter-held.ensures in let t = c.end_in-ended in
    done t.result (seat_part c.args.self.now.seat) (seat_part c.enter-held.new.seat) (held_book c.enter-held.result) c.book.result.now t.new.book c.args.self.now.number e.found e.part c.args.self.now.numbered c.book.ensures.value
    (seat_part c.leave.new.seat) t.ensures.legal c.leave.ensures.part (LogsCall call.End reply.Ended) t.ensures.step

pub returns-clause-err : goal.returns-clause-err
returns-clause-err g c =
    let e = c.enter-held.ensures in let t = c.end_in-ended in
    kept t.result (seat_part c.args.self.now.seat) (seat_part c.enter-held.new.seat) (held_book c.enter-held.result) c.book.result.now t.new.book c.args.self.now.number e.found e.part c.args.self.now.numbered c.book.ensures.value
    (seat_part c.leave.new.seat) t.ensures.legal c.leave.ensures.part t.ensures.err
