use Rattle.std.proofs.Common.{arith}
use Rattle.store_closing.proofs.sorting.sort_left.Goals as goal

pub push_reserved-requires-2 : goal.push_reserved-requires-2
push_reserved-requires-2 c =
    let room = c.in_ok-sorted.ensures.room in let push = c.push_reserved.ensures in
    let left = c.put_all.ensures.room 1 (record {
      seats = (let a = room.seats in let b = push.len in let d = push.capacity in omega (arith, a, b, d));
      counts = (let a = room.counts in omega (arith, a));
      gauges = (let a = room.gauges in omega (arith, a));
      ends = (let a = room.ends in omega (arith, a));
    }) in
    let a = left.seats in omega (arith, a)

pub push_reserved-requires-3 : goal.push_reserved-requires-3
push_reserved-requires-3 c =
    let room = c.in_ok-sorted.ensures.room in let push = c.push_reserved.ensures in
    let left = c.put_all.ensures.room 1 (record {
      seats = (let a = room.seats in let b = push.len in let d = push.capacity in omega (arith, a, b, d));
      counts = (let a = room.counts in omega (arith, a));
      gauges = (let a = room.gauges in omega (arith, a));
      ends = (let a = room.ends in omega (arith, a));
    }) in
    let a = left.gauges in omega (arith, a)
