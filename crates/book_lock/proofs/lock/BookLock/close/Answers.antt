use Rattle.std.proofs.Common.{rules, ap, subst, sym, map, ◌∙◌}
use Rattle.book_lock.specs.History.{IsOneHistory}
use Rattle.book_lock.specs.Naming.{NamesAreOne}
use Rattle.book_lock.specs.Seats.{lock_id, first_book, seats_of, room_of, seat_part, seat_known}
use Rattle.book_lock.specs.Locked.{in_box, names_in_box}
use Rattle.book_lock.proofs.Ends.{known_of, known-seats, all-ends, taken-last, last-book}
use Rattle.book_lock.proofs.lock.BookLock.close.Goals as goal

pub unwrap-book-requires : goal.unwrap-book-requires
unwrap-book-requires g c = let r = c.requires in let first = g.B.Booked.history (first_book c.args.self) in
    let t = all-ends (in_box g.B.Booked.history) (names_in_box g.B.Booked.changed) first (seats_of c.args.self) (room_of c.args.self) _ _ _ _ (lock_id c.args.self) c.args.seats.items c.close_with-closed.ensures.values.2 c.gather-all.ensures.parts r.rest r.all in
    let x = taken-last (in_box g.B.Booked.history) (names_in_box g.B.Booked.changed) first (seats_of c.args.self) (room_of c.args.self) _ _ _ c.take.ensures.value t in search rules

pub returns-clause-history : goal.returns-clause-history
returns-clause-history g c = let r = c.requires in let first = g.B.Booked.history (first_book c.args.self) in let seats = seats_of c.args.self in
    let t = all-ends (in_box g.B.Booked.history) (names_in_box g.B.Booked.changed) first seats (room_of c.args.self) _ _ _ _ (lock_id c.args.self) c.args.seats.items c.close_with-closed.ensures.values.2 c.gather-all.ensures.parts r.rest r.all in
    subst (λ b. IsOneHistory first seats (map seat_known c.args.seats.items) (g.B.Booked.history b)) (sym c.into_inner.ensures)
    (subst (λ ks. IsOneHistory first seats ks (g.B.Booked.history c.unwrap-book.result.value)) (ap (map known_of) c.gather-all.ensures.parts ∙ known-seats c.args.seats.items)
    (last-book (in_box g.B.Booked.history) (names_in_box g.B.Booked.changed) first seats (room_of c.args.self) _ _ _ c.unwrap-book.result c.take.ensures.value (search rules) t).0)

pub returns-clause-names : goal.returns-clause-names
returns-clause-names g c = let r = c.requires in let first = g.B.Booked.history (first_book c.args.self) in let seats = seats_of c.args.self in let room = room_of c.args.self in
    let t = all-ends (in_box g.B.Booked.history) (names_in_box g.B.Booked.changed) first seats room _ _ _ _ (lock_id c.args.self) c.args.seats.items c.close_with-closed.ensures.values.2 c.gather-all.ensures.parts r.rest r.all in
    subst (λ b. NamesAreOne room (map seat_part c.args.seats.items) (g.B.Booked.changed b)) (sym c.into_inner.ensures)
    (subst (λ ps. NamesAreOne room ps (g.B.Booked.changed c.unwrap-book.result.value)) c.gather-all.ensures.parts
    (last-book (in_box g.B.Booked.history) (names_in_box g.B.Booked.changed) first seats room _ _ _ c.unwrap-book.result c.take.ensures.value (search rules) t).1)
