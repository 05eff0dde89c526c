use Rattle.std.proofs.Common.{arith}
use Rattle.library_examples.proofs.Counted.{one_event_more}
use Rattle.library_examples.proofs.counting.apply_twice.Goals as goal

pub apply-requires-2-clause-few : goal.apply-requires-2-clause-few
apply-requires-2-clause-few c =
    omega (
      arith,
      c.requires.few,
      one_event_more c.args.store.now c.apply.new.self c.args.event.now
          c.in_ok-apply.field-0 c.in_ok-apply.ensures.ok,
    )

pub returns : goal.returns
returns c = record {
  first = c.in_ok-apply.field-0;
  second = c.in_ok-apply-2.field-0;
  once = c.apply.new.self;
  twice = c.apply-2.new.self;
  last = c.flush.new.self;
  applied = c.in_ok-apply.ensures.ok;
  again = c.in_ok-apply-2.ensures.ok;
  flushed = c.in_ok-flush.ensures.ok;
}
