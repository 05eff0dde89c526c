use Rattle.std.proofs.Common.{◌≡◌, IfOk, length, arith}
use Rattle.worker_run.specs.Working.{IsWorked}
use Rattle.run_files.proofs.JobsDone.{jobs_done}
use Rattle.run_files.proofs.workers.work_all.Goals as goal

pub returns-in-Ok : goal.returns-in-Ok
returns-in-Ok g c =
    let count : length c.in-Ok.results.items ≡ length c.args.jobs.items = omega (arith, c.in-Ok.ensures.len) in
    jobs_done _ _
    (λ job done. IfOk done (IsWorked g.S.Source.state c.args.hall.now.store.now job.number job.given))
    (λ job done call. call.met) _ _ count c.in-Ok.ensures.each
