use Rattle.std.proofs.Common.{◌≡◌, ◌+◌, ap, length, refl, sym, subst, List, arith}
use Rattle.std.specs.Vec.Iter.{into_iter_items}
use Rattle.ledger.specs.Lists.{EachNumbered}
use Rattle.worker_run.specs.declared.given.Job.{Job}
use Rattle.store_opening.proofs.Numbered.{one_more}
use Rattle.run_files.proofs.Places.{map_more, queue_moves, queue_count}
use Rattle.run_files.proofs.jobs.jobs_of.Goals as goal

pub push_reserved-requires : goal.push_reserved-requires
push_reserved-requires g c =
    let i = c.loop-given.invariant in
    let count = queue_count (λ (job : Job _). job.recorder) c.loop-given.jobs.items
    (into_iter_items c.into_iter-waiting.result) (into_iter_items c.loop-given.waiting) i.recorders in
    let head = ap length c.in-Some-next.ensures.items in
    let room = i.room in omega (arith, count, head, room)

pub loop-given-preserved : goal.loop-given-preserved
loop-given-preserved g c =
    let i = c.loop-given.invariant in let push = c.push_reserved.ensures in
    let job : Job _ = record {
      recorder = c.in-Some-next.recorder;
      number = c.len-in-loop-given.result + 1;
      given = c.in-Some.given;
    } in
    record {
      recorders = queue_moves (λ (job : Job _). job.recorder) c.loop-given.jobs.items c.push_reserved.new.self.items job
          (into_iter_items c.into_iter-waiting.result) (into_iter_items c.loop-given.waiting)
          (into_iter_items c.next-in-loop-given.new.self) push.items c.in-Some-next.ensures.items i.recorders;
      files = map_more (λ (job : Job _). job.given) c.loop-given.jobs.items c.push_reserved.new.self.items job
          c.loop-given.yielded push.items i.files;
      numbers = subst (λ (l : List (Job _)). EachNumbered (λ number job. job.number ≡ number) 1 l) (sym push.items)
          (one_more (λ number job. job.number ≡ number) 1 job.number c.loop-given.jobs.items job i.numbers
          (let len = c.len-in-loop-given.ensures in omega (arith, len)) refl);
      room = (let same = push.capacity in let room = i.room in omega (arith, same, room));
    }
