use Rattle.std.proofs.Common.{arith, pos}
use Rattle.text_parts.proofs.Pairs.{counted_within}
use Rattle.text_parts.proofs.listed.values_up_to.Goals as goal

pub overflow_add-sum : goal.overflow_add-sum
overflow_add-sum c =
    omega (
      arith,
      counted_within c.args.bound.halves c.args.counts.now c.loop-c.c-index (record { bin = record { val = 0; exp = pos 0 }; count = 0 }) c.loop-c-test.true,
      c.count_at_bound-sum.ensures,
      c.loop-c.invariant,
      c.requires.limit,
    )
