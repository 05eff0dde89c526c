use Rattle.std.proofs.Common.{ℕ, ◌++◌, List, arith, refl, ap, ◌∙◌}
use Rattle.stat_name.specs.Spelling.{spelling}
use Rattle.stat_name.proofs.Spellings.{length-spelling-le, length-spelling-one, length-spelling-more, one_group, one_group_last}
use Rattle.std.proofs.Math.ListN.{length-set, length-take}
use Rattle.stat_name.proofs.numbers.put_number.Goals as goal

pub loop-left-init : goal.loop-left-init
loop-left-init c = record { room = omega (arith, length-spelling-le c.args.n (omega arith)); size = refl; written = refl }

pub bounds-groups-len : goal.bounds-groups-len
bounds-groups-len c = omega (arith, length-spelling-more c.loop-left.left c.loop-left-test.true)

pub loop-left-preserved : goal.loop-left-preserved
loop-left-preserved c =
    let some = length-spelling-more c.loop-left.left c.loop-left-test.true in record {
      room = omega arith;
      size = simp length-set c.loop-left.invariant.size;
      written = one_group c.loop-left.groups c.loop-left.len c.loop-left.left (spelling c.args.n) (omega arith) c.loop-left-test.true c.loop-left.invariant.written;
    }

pub bounds-groups-len-2 : goal.bounds-groups-len-2
bounds-groups-len-2 c = omega (arith, length-spelling-one c.loop-left.left (omega arith))

pub slice_bounds-groups-end : goal.slice_bounds-groups-end
slice_bounds-groups-end c = simp length-set (omega (arith, length-spelling-one c.loop-left.left (omega arith)))

pub slice_bounds-extend_from_slice-end : goal.slice_bounds-extend_from_slice-end
slice_bounds-extend_from_slice-end c = simp (length-take, length-set) (omega (arith, length-spelling-one c.loop-left.left (omega arith)))

pub returns-clause-ok : goal.returns-clause-ok
returns-clause-ok c =
    c.in_ok-extend_from_slice.ensures.items ∙ ap (λ (s : List ℕ). c.args.out.now.items ++ s) (one_group_last c.loop-left.groups c.loop-left.len c.loop-left.left (spelling c.args.n) (omega (arith, length-spelling-one c.loop-left.left (omega arith))) (omega arith) c.loop-left.invariant.written)
