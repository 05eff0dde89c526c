use Rattle.stat_defs.specs.declared.history.Call.TheVariants as call
use Rattle.book_state.specs.declared.limits.TheConstants.{MAX_OPENINGS}
use Rattle.book_lock.specs.Seats.{seat_part, seat_known, held_book}
use Rattle.book_access.specs.Making.{AnswersCall}
use Rattle.book_access.proofs.Called.{one_answered}
use Rattle.book_lock.proofs.Uses.{found-with}
use Rattle.locked_book.proofs.Called.{leaves_made, names_made, working_lent, opened_lent, told, kept}
use Rattle.locked_book.proofs.access.LockedBookBookAccessWay.open.Goals as goal

pub open_in-verdict-requires-clause-works : goal.open_in-verdict-requires-clause-works
open_in-verdict-requires-clause-works g c =
    working_lent (seat_known c.args.self.now.seat) (held_book c.enter-held.result) c.book.result.now c.args.self.now.number c.enter-held.ensures.found c.args.self.now.numbered c.book.ensures.value (λ row. Unit {0}) c.requires.works

pub open_in-verdict-requires-clause-room : goal.open_in-verdict-requires-clause-room
open_in-verdict-requires-clause-room g c =
    opened_lent (seat_known c.args.self.now.seat) (held_book c.enter-held.result) c.book.result.now c.args.self.now.number c.enter-held.ensures.found c.args.self.now.numbered c.book.ensures.value MAX_OPENINGS c.requires.room

pub leave-requires-clause-book : goal.leave-requires-clause-book
leave-requires-clause-book g c =
    let e = c.enter-held.ensures in let t = c.open_in-verdict in
    leaves_made t.result (seat_part c.args.self.now.seat) (seat_part c.enter-held.new.seat) (held_book c.enter-held.result) c.book.result.now t.new.book c.args.self.now.number e.found e.part c.args.self.now.numbered c.book.ensures.value
    (λ x. AnswersCall (call.OpenScope c.args.label.now c.args.prefix.now) x) (λ x. one_answered (call.OpenScope c.args.label.now c.args.prefix.now) x c.args.self.now.number c.book.result.now t.new.book) t.ensures.step t.ensures.err

pub leave-requires-clause-found : goal.leave-requires-clause-found
leave-requires-clause-found g c = let e = c.enter-held.ensures in found-with c.enter-held.result (seat_part c.args.self.now.seat) (seat_part c.enter-held.new.seat) _ _ e.counts e.part

pub leave-requires-clause-names : goal.leave-requires-clause-names
leave-requires-clause-names g c =
    let e = c.enter-held.ensures in let t = c.open_in-verdict in
    names_made t.result (seat_part c.args.self.now.seat) (seat_part c.enter-held.new.seat) (held_book c.enter-held.result) c.book.result.now t.new.book c.args.self.now.number e.found e.part c.args.self.now.numbered c.book.ensures.value e.names c.args.self.now.roomy t.ensures.legal
    (λ x. AnswersCall (call.OpenScope c.args.label.now c.args.prefix.now) x) (λ x. one_answered (call.OpenScope c.args.label.now c.args.prefix.now) x c.args.self.now.number c.book.result.now t.new.book) t.ensures.step t.ensures.err

pub returns-clause-step : goal.returns-clause-step
returns-clause-step g c =
    let e = c.enter-held.ensures in let t = c.open_in-verdict in
    told t.result (seat_part c.args.self.now.seat) (seat_part c.enter-held.new.seat) (held_book c.enter-held.result) c.book.result.now t.new.book c.args.self.now.number e.found e.part c.args.self.now.numbered c.book.ensures.value
    (seat_part c.leave.new.seat) t.ensures.legal c.leave.ensures.part (λ x. AnswersCall (call.OpenScope c.args.label.now c.args.prefix.now) x) t.ensures.step

pub returns-clause-err : goal.returns-clause-err
returns-clause-err g c =
    let e = c.enter-held.ensures in let t = c.open_in-verdict in
    kept t.result (seat_part c.args.self.now.seat) (seat_part c.enter-held.new.seat) (held_book c.enter-held.result) c.book.result.now t.new.book c.args.self.now.number e.found e.part c.args.self.now.numbered c.book.ensures.value
    (seat_part c.leave.new.seat) t.ensures.legal c.leave.ensures.part t.ensures.err
