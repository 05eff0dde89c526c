use Rattle.run_files.proofs.RunDone.{have_ended, run_done, run_names_known}
use Rattle.run_files.proofs.run.run_files.Goals as goal

pub report_of-requires-clause-workers : goal.report_of-requires-clause-workers
report_of-requires-clause-workers g c =
    have_ended g.S.Source.state c.args.setup.config.now c.args.files.items c.in_ok-started.started c.in-Ok.done
    c.in_ok-started.ensures c.in-Ok.ensures

pub returns-clause-report : goal.returns-clause-report
returns-clause-report g c =
    run_done g.S.Source.state c.args.setup.config.now c.args.files.items c.in_ok-started.started c.in-Ok.done
    c.in_ok-started.ensures c.in-Ok.ensures c.report_of.result c.report_of.ensures

pub returns-clause-names : goal.returns-clause-names
returns-clause-names g c =
    run_names_known g.S.Source.state c.args.setup.config.now c.args.files.items c.in_ok-started.started c.in-Ok.done
    c.in_ok-started.ensures c.in-Ok.ensures c.report_of.result c.report_of.ensures
