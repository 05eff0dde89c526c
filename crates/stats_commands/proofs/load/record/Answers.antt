use Rattle.stats_commands.proofs.Summed.{load_applies}
use Rattle.stats_commands.proofs.load.record.Goals as goal

pub returns : goal.returns
returns c =
    load_applies c.args.asked.scripts c.args.asked.events
    (record { report = c.in_ok-report.field-0.report; names = c.in_ok-report.field-0.names; config = c.args.boot.config; buckets = c.args.boot.buckets })
    c.args.asked.few_scripts c.requires.lawful c.requires.buckets c.in_ok-report.ensures.ledger c.in_ok-report.ensures.names
