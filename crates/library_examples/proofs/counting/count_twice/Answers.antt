use Rattle.std.proofs.Common.{subst}
use Rattle.plain_store.specs.Store.{StoreHistory}
use Rattle.library_examples.specs.Counting.{CountsTwice}
use Rattle.library_examples.proofs.Counted.{room_for_two}
use Rattle.library_examples.proofs.counting.count_twice.Goals as goal

pub apply_twice-flush-requires-clause-few : goal.apply_twice-flush-requires-clause-few
apply_twice-flush-requires-clause-few c = room_for_two c.args.config.now c.in_ok-store.store c.in_ok-store.ensures.made

pub returns : goal.returns
returns c = record {
  counted = subst (λ (s : StoreHistory). CountsTwice s c.args.event.now c.in_ok-flush.field-0)
      c.in_ok-store.ensures.made c.in_ok-flush.ensures;
  refused = tt;
}
