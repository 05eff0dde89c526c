use Rattle.run_files.proofs.AllBack.{all_back}
use Rattle.run_files.proofs.returning.run_parties.Goals as goal

pub returns : goal.returns
returns g c =
    all_back (λ list. list.items) g.S.Source.state c.args.store.now c.args.parties.sides c.args.parties.jobs.items _ _ _
    c.run_all-sides.ensures.flusher c.run_all-sides.ensures.reader c.run_all-sides.ensures.workers c.put_together.result
    c.put_together.ensures.flushings c.put_together.ensures.readings c.put_together.ensures.gathered
