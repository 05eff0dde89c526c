use Rattle.std.proofs.Common.{◌≡◌, ◌≤◌, ◌++◌, length, map, vec_capacity}
use Rattle.std.specs.Vec.Iter.{into_iter_items}
use Rattle.ledger.specs.Lists.{EachNumbered}
use Rattle.run_files.proofs.jobs.jobs_of.Given as goal

abbrev pub invariant-loop-given : goal.invariant-loop-given
invariant-loop-given g l = record {
  recorders : map (λ job. job.recorder) l.jobs.items ++ into_iter_items l.waiting ≡ into_iter_items l.initial.waiting;
  files : map (λ job. job.given) l.jobs.items ≡ l.yielded;
  numbers : EachNumbered (λ number job. job.number ≡ number) 1 l.jobs.items;
  room : length (into_iter_items l.initial.waiting) ≤ vec_capacity l.jobs;
}
