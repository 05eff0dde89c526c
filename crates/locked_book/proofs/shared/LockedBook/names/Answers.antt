use Rattle.book_lock.specs.Seats.{seat_part, held_book}
use Rattle.locked_book.specs.Lists.{ListsNames}
use Rattle.book_lock.proofs.Uses.{found-with}
use Rattle.locked_book.proofs.Called.{leaves_same, names_same, told, kept, kept_same}
use Rattle.locked_book.proofs.OfKind.{lists_names}
use Rattle.locked_book.proofs.shared.LockedBook.names.Goals as goal

pub leave-requires-clause-book : goal.leave-requires-clause-book
leave-requires-clause-book g c =
    let e = c.enter-held.ensures in let t = c.listing_of-listing in
    leaves_same t.result (seat_part c.args.self.now.seat) (seat_part c.enter-held.new.seat) (held_book c.enter-held.result) c.book.result.now c.book.result.now c.args.self.now.number e.found e.part c.args.self.now.numbered c.book.ensures.value

pub leave-requires-clause-found : goal.leave-requires-clause-found
leave-requires-clause-found g c = let e = c.enter-held.ensures in found-with c.enter-held.result (seat_part c.args.self.now.seat) (seat_part c.enter-held.new.seat) _ _ e.counts e.part

pub leave-requires-clause-names : goal.leave-requires-clause-names
leave-requires-clause-names g c =
    let e = c.enter-held.ensures in let t = c.listing_of-listing in
    names_same t.result (seat_part c.args.self.now.seat) (seat_part c.enter-held.new.seat) (held_book c.enter-held.result) c.book.result.now c.book.result.now c.args.self.now.number e.found e.part c.args.self.now.numbered c.book.ensures.value e.names

pub returns-clause-step : goal.returns-clause-step
returns-clause-step g c =
    let e = c.enter-held.ensures in let t = c.listing_of-listing in
    told t.result (seat_part c.args.self.now.seat) (seat_part c.enter-held.new.seat) (held_book c.enter-held.result) c.book.result.now c.book.result.now c.args.self.now.number e.found e.part c.args.self.now.numbered c.book.ensures.value
    (seat_part c.leave.new.seat) t.ensures.legal c.leave.ensures.part (λ x. ListsNames x) (lists_names t.result c.args.self.now.number c.book.result.now t.ensures.lists)

pub returns-clause-err : goal.returns-clause-err
returns-clause-err g c =
    let e = c.enter-held.ensures in let t = c.listing_of-listing in
    kept t.result (seat_part c.args.self.now.seat) (seat_part c.enter-held.new.seat) (held_book c.enter-held.result) c.book.result.now c.book.result.now c.args.self.now.number e.found e.part c.args.self.now.numbered c.book.ensures.value
    (seat_part c.leave.new.seat) t.ensures.legal c.leave.ensures.part (kept_same t.result c.book.result.now)
