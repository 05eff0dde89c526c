use Rattle.envoy_stats.proofs.LoadRuns.{load_runs}
use Rattle.envoy_stats.proofs.load.record.Goals as goal

pub returns : goal.returns
returns g c =
    load_runs c.args.asked.scripts c.args.asked.events
    (record { report = c.in_ok-report.field-0.report; names = c.in_ok-report.field-0.names; config = c.args.boot.config; buckets = c.args.boot.buckets })
    c.args.asked.few_scripts c.requires.built.lawful c.requires.no_flush c.requires.built.buckets c.in_ok-report.ensures.ledger c.in_ok-report.ensures.names
