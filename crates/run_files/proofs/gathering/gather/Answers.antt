use Rattle.std.proofs.Common.{◌+◌, List, length, ap, arith}
use Rattle.std.specs.Vec.Iter.{into_iter_items}
use Rattle.std.specs.declared.result.Result.{Result}
use Rattle.stat_defs.specs.declared.memory.NoMemory.{NoMemory}
use Rattle.worker_run.specs.declared.given.Worked.{Worked}
use Rattle.run_files.proofs.GatheredMore.{fewer_room, gathered_more}
use Rattle.run_files.proofs.gathering.gather.Goals as goal

pub put-requires : goal.put-requires
put-requires c =
    let left = into_iter_items c.loop-outcome.outcome-iterator in
    let short = ap (λ (l : List (Result Worked NoMemory)). length l) c.in-Some.ensures.steps.0 in
    fewer_room (length left) 1 c.loop-outcome.all (omega (arith, short)) c.loop-outcome.invariant.room

pub loop-outcome-preserved : goal.loop-outcome-preserved
loop-outcome-preserved c =
    let left = into_iter_items c.loop-outcome.outcome-iterator in let rest = into_iter_items c.next.new.self in
    let short = ap (λ (l : List (Result Worked NoMemory)). length l) c.in-Some.ensures.steps.0 in record {
      are = gathered_more c.loop-outcome.yielded c.in-Some.outcome c.in-Ok.worked c.loop-outcome.all c.put.new.self
          c.in-Ok.is c.put.ensures.puts c.loop-outcome.invariant.are;
      room = c.put.ensures.room (length rest)
          (fewer_room (length left) (length rest + 1) c.loop-outcome.all (omega (arith, short))
          c.loop-outcome.invariant.room);
    }
