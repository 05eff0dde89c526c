use Rattle.stat_defs.specs.Borrowed.{event_of}
use Rattle.book_access.specs.Owned.{owned_known}
use Rattle.book_seat.specs.Deciding.{DecidesEvent, CutsEvent}
use Rattle.book_seat.proofs.Results.{if_ok, on_err, err_so}
use Rattle.plain_store.specs.Seats.{AppliesAlone, CutsAlone}
use Rattle.plain_store.proofs.OwnSeats.{works_own, vain_own, applies_own, cuts_own, room_own}
use Rattle.plain_store.proofs.seat.apply.Goals as goal

pub poll-requires-clause-works : goal.poll-requires-clause-works
poll-requires-clause-works c = works_own c.args.seat.now c.args.seat.now c.requires.number c.requires.works

pub returns-in_err-poll-clause-err : goal.returns-in_err-poll-clause-err
returns-in_err-poll-clause-err c =
    let a = c.args.seat.now in let m = c.poll.new.self in
    let e = event_of c.args.event.now in
    err_so c.from_residual.result (CutsAlone e a m) (vain_own a m c.requires.number e c.in_err-poll.ensures.err)

pub decide-requires-clause-works : goal.decide-requires-clause-works
decide-requires-clause-works c = c.in_ok-poll.ensures.polls.stays.works

pub decide-requires-clause-room : goal.decide-requires-clause-room
decide-requires-clause-room c =
    let a = c.args.seat.now in let m = c.poll.new.self in
    room_own a m m c.requires.number c.in_ok-poll.field-0 c.in_ok-poll.ensures.polls c.requires.room

pub returns-clause-applied : goal.returns-clause-applied
returns-clause-applied c =
    let a = c.args.seat.now in let m = c.poll.new.self in let b = c.decide.new.self in let e = event_of c.args.event.now in
    if_ok c.decide.result (λ v. DecidesEvent e v (owned_known m.number m.book) (owned_known b.number b.book)) (λ v. AppliesAlone e v a b)
    (λ v decides. applies_own a m b c.requires.number c.in_ok-poll.field-0 c.in_ok-poll.ensures.polls e v decides) c.decide.ensures.decided

pub returns-clause-err : goal.returns-clause-err
returns-clause-err c =
    let a = c.args.seat.now in let m = c.poll.new.self in let b = c.decide.new.self in let e = event_of c.args.event.now in
    on_err c.decide.result (CutsEvent e (owned_known m.number m.book) (owned_known b.number b.book)) (CutsAlone e a b)
    (λ cuts. cuts_own a m b c.requires.number c.in_ok-poll.field-0 c.in_ok-poll.ensures.polls e cuts) c.decide.ensures.err
