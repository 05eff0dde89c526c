use Rattle.stat_defs.specs.declared.history.Call.TheVariants as call
use Rattle.stat_defs.specs.declared.history.Reply.TheVariants as reply
use Rattle.book_lock.specs.Seats.{seat_part, held_book}
use Rattle.book_access.proofs.Called.{one_logged}
use Rattle.locked_book.specs.Lists.{SweepsListed}
use Rattle.book_lock.proofs.Uses.{found-with}
use Rattle.locked_book.proofs.Called.{leaves_made, names_made, told, kept}
use Rattle.locked_book.proofs.shared.LockedBook.sweep.Goals as goal

pub leave-requires-clause-book : goal.leave-requires-clause-book
leave-requires-clause-book g c =
    let e = c.enter-held.ensures in let t = c.sweep_in-listing in
    leaves_made t.result (seat_part c.args.self.now.seat) (seat_part c.enter-held.new.seat) (held_book c.enter-held.result) c.book.result.now t.new.book 0 e.found e.part c.requires.store c.book.ensures.value
    (λ x. SweepsListed x) (λ x s. one_logged call.Sweep (reply.Swept _) 0 c.book.result.now t.new.book s.step) t.ensures.step t.ensures.err

pub leave-requires-clause-found : goal.leave-requires-clause-found
leave-requires-clause-found g c = let e = c.enter-held.ensures in found-with c.enter-held.result (seat_part c.args.self.now.seat) (seat_part c.enter-held.new.seat) _ _ e.counts e.part

pub leave-requires-clause-names : goal.leave-requires-clause-names
leave-requires-clause-names g c =
    let e = c.enter-held.ensures in let t = c.sweep_in-listing in
    names_made t.result (seat_part c.args.self.now.seat) (seat_part c.enter-held.new.seat) (held_book c.enter-held.result) c.book.result.now t.new.book 0 e.found e.part c.requires.store c.book.ensures.value e.names c.args.self.now.roomy t.ensures.legal
    (λ x. SweepsListed x) (λ x s. one_logged call.Sweep (reply.Swept _) 0 c.book.result.now t.new.book s.step) t.ensures.step t.ensures.err

pub returns-clause-step : goal.returns-clause-step
returns-clause-step g c =
    let e = c.enter-held.ensures in let t = c.sweep_in-listing in
    told t.result (seat_part c.args.self.now.seat) (seat_part c.enter-held.new.seat) (held_book c.enter-held.result) c.book.result.now t.new.book 0 e.found e.part c.requires.store c.book.ensures.value
    (seat_part c.leave.new.seat) t.ensures.legal c.leave.ensures.part (λ x. SweepsListed x) t.ensures.step

pub returns-clause-err : goal.returns-clause-err
returns-clause-err g c =
    let e = c.enter-held.ensures in let t = c.sweep_in-listing in
    kept t.result (seat_part c.args.self.now.seat) (seat_part c.enter-held.new.seat) (held_book c.enter-held.result) c.book.result.now t.new.book 0 e.found e.part c.requires.store c.book.ensures.value
    (seat_part c.leave.new.seat) t.ensures.legal c.leave.ensures.part t.ensures.err
