use Rattle.std.proofs.Common.{refl, add-one, arith}
use Rattle.library_examples.proofs.flushing.flush_often.Goals as goal

pub loop-done-init : goal.loop-done-init
loop-done-init c = record {
  told = c.requires;
  often = refl;
  kept = λ config was. was;
  more = omega arith;
}

pub loop-done-preserved : goal.loop-done-preserved
loop-done-preserved c =
    let once = c.in_ok-flush_once.ensures in
    let so = c.loop-done.invariant in
    record {
      told = once.flushes;
      often = rw add-one (c.loop-done.store, once.flushed.0, (so.often, once.flushed.1));
      kept = λ config was. once.kept config (so.kept config was);
      more = (let before = so.more in let now = once.one_more in omega (arith, before, now));
    }

pub returns-clause-kept : goal.returns-clause-kept
returns-clause-kept c = c.loop-done.invariant.kept
