use Rattle.library_examples.proofs.Counted.{room_for_lines}
use Rattle.store_tests.proofs.stores.verdicts_in.Goals as goal

pub lines_applied-applied-requires : goal.lines_applied-applied-requires
lines_applied-applied-requires c = room_for_lines c.args.config.now c.in_ok-store.store c.in_ok-store.ensures.made
