use Rattle.std.proofs.Common.{arith, ◌∙◌, ◌*◌, sym}
use Rattle.std.specs.Vec.Iter.{into_iter_items}
use Rattle.book_state.specs.declared.limits.TheConstants.{MAX_METRICS}
use Rattle.book_lock.specs.Seats.{first_book}
use Rattle.locked_book.proofs.Numbered.{seat_at, seats_length, fewer}
use Rattle.locked_book.proofs.making.number_seats.Goals as goal

pub overflow_cast-number : goal.overflow_cast-number
overflow_cast-number c =
    let i = c.loop-seat.invariant in
    let few = fewer c.args.seats.items c.loop-seat.yielded (into_iter_items c.loop-seat.seat-iterator) (into_iter_items c.next.new.self) c.in-Some.seat i.0 c.in-Some.ensures.steps.0 in
    let all = seats_length c.args.lock.now (first_book c.args.lock.now) (2 * MAX_METRICS) c.args.count c.args.seats.items c.requires.seats in
    let n = c.len-number.ensures in let len = i.3 in let fits = c.ranges.count.fits in omega (arith, few, all, n, len, fits)

pub invariant_of-push_reserved : goal.invariant_of-push_reserved
invariant_of-push_reserved c =
    let i = c.loop-seat.invariant in
    let at = seat_at c.args.lock.now (first_book c.args.lock.now) (2 * MAX_METRICS) c.args.count c.args.seats.items c.loop-seat.yielded (into_iter_items c.loop-seat.seat-iterator) (into_iter_items c.next.new.self) c.in-Some.seat c.requires.seats i.0 c.in-Some.ensures.steps.0 in
    record { numbered = at.0 ∙ sym (c.len-number.ensures ∙ i.3); rests = at.1; roomy = at.2 }

pub push_reserved-requires : goal.push_reserved-requires
push_reserved-requires c =
    let i = c.loop-seat.invariant in
    let few = fewer c.args.seats.items c.loop-seat.yielded (into_iter_items c.loop-seat.seat-iterator) (into_iter_items c.next.new.self) c.in-Some.seat i.0 c.in-Some.ensures.steps.0 in
    let all = seats_length c.args.lock.now (first_book c.args.lock.now) (2 * MAX_METRICS) c.args.count c.args.seats.items c.requires.seats in
    let room = i.2 in let len = i.3 in omega (arith, few, all, room, len)
